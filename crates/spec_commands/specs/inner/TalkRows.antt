-- Who hears what a player says, by examples.
use Rattle.std.specs.Prelude.{◌≡◌, ℕ, Bool, true, false, List, [], ◌∷◌, codes, None, refl}
use Rattle.std.specs.Fmt.{digits}
use Rattle.muck_model.specs.Decimal.{decimal_of}
use Rattle.muck_model.specs.Numbers.{dbref_written as number_named}
use Rattle.muck_match.specs.Words.{is_same, begins_alike, has_word, texts_placed, aliases}
use Rattle.muck_match.specs.Scenery.{numbers, place_in_scenery as sight_place, things_in, exit_order, is_in_scenery}
use Rattle.muck_match.specs.Naming.{name_fits, answers_to, objects_near, near, name_matched, player_named, if_there, found_by_sign, thing_found}
use Rattle.spec_live.specs.declared.object.Object.{Object}
use Rattle.spec_live.specs.declared.saving.Saving.TheVariants.{Done}
use Rattle.spec_live.specs.Objects.{Entry, dbref_of, object_at, number_in, kind_in, place_in, object_in, list_in}
use Rattle.spec_live.specs.Chain.{walk, follower}
use Rattle.spec_live.specs.Output.{sent_lines, queue_most, sent_lines_bytes, line_sent, lines_sent, text_sent}
use Rattle.spec_live.specs.Start.{room_zero, player_one}
use Rattle.spec_live.specs.Seen.{scenery_of, listed_in, places_of}
use Rattle.spec_live.specs.Boards.{early_board, told_one, told_player, told_others}
use Rattle.spec_live.specs.Lives.{Live, change_followed, reading, either, where_so, unchanged, tell, tell_player, tell_but, tell_others}
use Rattle.spec_commands.specs.declared.outcome.Outcome.{Outcome}
use Rattle.spec_commands.specs.declared.outcome.Outcome.TheVariants.{Done as Finished, Said}
use Rattle.spec_commands.specs.Replies.{cant_be_done, you_say, says, you_say_to, says_to, not_connected}
use Rattle.spec_commands.specs.Finding.{finding, finding_player, is_object_so, shown_others}
use Rattle.spec_commands.specs.Going.{ended}
use Rattle.spec_commands.specs.Talking.{said, posed, said_to, paged, whispered}
use Rattle.spec_commands.specs.Reading.{object_sought, with_fit, with_parts, with_arguments, by_table}
use Rattle.spec_commands.specs.Commands.{play_words, play_done, said_by_sign, play_line}
use Rattle.spec_commands.specs.inner.Company.{held, seats, player_two, queues}
use Rattle.spec_commands.specs.inner.EditRows.{one}

abbrev pub holding : List ℕ → Object → Entry
holding contents o = record { object = o; contents = contents; exits = []; mark = None; saving = Done; stood = None }

-- One and Two stand in Room Zero, and Three in Den `#3`; they are connected in this order, and Four, who is with Three, isn't
abbrev town : Live
town = held (
    holding (2 ∷ 1 ∷ []) room_zero ∷
    holding [] player_one ∷
    holding [] player_two ∷
    holding (5 ∷ 4 ∷ []) (record room_zero { name = codes "Den"; place = dbref_of 0 }) ∷
    holding [] (record player_two { name = codes "Three"; owner = dbref_of 4; place = dbref_of 3 }) ∷
    holding [] (record player_two { name = codes "Four"; owner = dbref_of 5; place = dbref_of 3 }) ∷ []) (seats 1 (1 ∷ 2 ∷ 4 ∷ []))

-- what One, Two and Three see of a line that One types
abbrev seen : List ℕ → List (List (List ℕ)) × Outcome
seen line = let after = play_line 1 one line town in (queues after.0.board.connections, after.1)

abbrev see : List (List ℕ) → List (List ℕ) → List (List ℕ) → List (List (List ℕ)) × Outcome
see first second third = (first ∷ second ∷ third ∷ [], Finished)

-- the same of one that is said or posed, which the outcome gives
abbrev hear : Bool → List ℕ → List (List ℕ) → List (List ℕ) → List (List (List ℕ)) × Outcome
hear pose text first second = (first ∷ second ∷ [] ∷ [], Said pose text)

abbrev line : List ℕ → List (List ℕ)
line text = text ∷ []

unfoldable pub TalkRows : Type 0
TalkRows =
    -- what is said and posed reaches those in the place
    (seen (codes "say hi") ≡ hear false (codes "hi") (line (codes "You say, \"hi\"")) (line (codes "One says, \"hi\"")))
    × (seen (codes "\"hi") ≡ hear false (codes "hi") (line (codes "You say, \"hi\"")) (line (codes "One says, \"hi\"")))
    × (seen (codes "pose waves") ≡ hear true (codes "waves") (line (codes "One waves")) (line (codes "One waves")))
    × (seen (codes ":'s gone") ≡ hear true (codes "'s gone") (line (codes "One's gone")) (line (codes "One's gone")))
    -- a page reaches its player alone, wherever that one is
    × (seen (codes "page three=hi") ≡ see (line (codes "You page, \"hi\" to Three.")) [] (line (codes "One pages, \"hi\"")))
    × (seen (codes "page Two=hi") ≡ see (line (codes "You page, \"hi\" to Two.")) (line (codes "One pages, \"hi\"")) [])
    × (seen (codes "page Four=hi") ≡ see (line (codes "Four isn't connected.")) [] [])
    -- what is whispered reaches a player in the place, and no other
    × (seen (codes "whisper Two=hi") ≡ see (line (codes "You whisper, \"hi\" to Two.")) (line (codes "One whispers, \"hi\"")) [])
    × (seen (codes "whisper #4=hi") ≡ see (line (codes "That can't be done.")) [] [])

pub talk_rows : TalkRows
unfolding TalkRows follower number_named is_same begins_alike has_word texts_placed aliases numbers sight_place things_in exit_order is_in_scenery name_fits answers_to objects_near near name_matched player_named if_there found_by_sign thing_found sent_lines queue_most sent_lines_bytes line_sent lines_sent text_sent object_at number_in kind_in place_in object_in list_in walk room_zero player_one scenery_of listed_in places_of early_board told_one told_player told_others change_followed reading either where_so unchanged tell tell_player tell_but tell_others cant_be_done you_say says you_say_to says_to not_connected finding finding_player is_object_so shown_others ended said posed said_to paged whispered object_sought with_fit with_parts with_arguments by_table play_words play_done said_by_sign play_line decimal_of digits
talk_rows = (refl, refl, refl, refl, refl, refl, refl, refl, refl)
