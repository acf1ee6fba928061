-- What bounds a program, which words it may call, at which it begins, and what a salt is made of, by examples.
use Rattle.std.specs.Prelude.{◌≡◌, ℕ, pos, true, false, List, [], ◌∷◌, map, length, codes, Option, Some, None, refl}
use Rattle.std.specs.Option.{option_map}
use Rattle.muf_model.specs.declared.code.Literal.TheVariants.{Int}
use Rattle.muf_model.specs.declared.code.Offer.TheVariants.{All, Wizards, Nobody}
use Rattle.muf_model.specs.declared.code.Word.TheVariants.{Literal}
use Rattle.muf_model.specs.Datum.{object, text}
use Rattle.muf_model.specs.Source.{Source}
use Rattle.muf_model.specs.Tree.{Block, stop, word, Definition, Tree}
use Rattle.muck_queue.specs.Queues.{empty_queue, number_most, is_queue_full, process_added}
use Rattle.spec_live.specs.Boards.{first_tune, early_board, told_one}
use Rattle.spec_live.specs.Objects.{dbref_of, object_at, number_in, kind_in, object_in}
use Rattle.spec_live.specs.Start.{room_zero, player_one}
use Rattle.spec_commands.specs.inner.Company.{company, queues}
use Rattle.spec_commands.specs.inner.EditRows.{desk}
use Rattle.spec_admin.specs.Players.{salt_of}
use Rattle.spec_prims.specs.inner.Rows.{acting_at}
use Rattle.std.specs.Fmt.{digits}
use Rattle.spec_live.specs.Lives.{tell}
use Rattle.spec_live.specs.Output.{sent_lines, queue_most, sent_lines_bytes, line_sent, lines_sent, text_sent}
use Rattle.spec_rights.specs.Asking.{denied_text, refused}
use Rattle.spec_rights.specs.Levels.{level_at, owner_at, flag_at, effective}
use Rattle.muck_library.specs.Library.{form_at, formed}
use Rattle.spec_events.specs.World.{World, world_booted, starting_world}
use Rattle.spec_events.specs.Starting.{program_beginning, by_hook, new_process, form_started, program_begun, launched}
use Rattle.spec_events.specs.Slices.{is_offered, units_most_at, called_word}
use Rattle.spec_events.specs.inner.Rows.{by_one}

-- a program of two words, which push 1 and 2
abbrev pushes : ℕ → Block
pushes n = word 1 (Literal (Int (pos n))) stop

abbrev named : List ℕ → ℕ → Definition
named name n = record { name = name; offer = All; variables = 0; body = pushes n; last = 1 }

abbrev two_words : Tree
two_words = record { words = named (codes "first") 1 ∷ named (codes "second") 2 ∷ []; variables = 0 }

abbrev called : Option (List ℕ) → Option Block
called name = option_map (λ d. d.body) (called_word (acting_at 1 1) name two_words)

-- Two starts it by the exit `#3`
abbrev begins : Source
begins =
    program_beginning (record { player = dbref_of 2; program = dbref_of 9; trigger = dbref_of 3; command = codes "bell now"; argument = codes "now" }) two_words (named (codes "second") 2)
    (record starting_world { live = company [] })

-- the program `#3` of this player is started by a line
abbrev tries : ℕ → World
tries owner = launched 1 (acting_at 1 owner) by_one (record starting_world { live = desk owner; library = None ∷ None ∷ None ∷ Some two_words ∷ [] })

-- where each process stands
abbrev stands : World → List (Option Block)
stands w = map (λ p. option_map (λ s. s.now) p.running) w.queue.processes

unfoldable pub EventRows : Type 0
EventRows =
    -- how many units a program takes until it waits, by its level
    (units_most_at first_tune 1 ≡ Some 20000)
    × (units_most_at first_tune 2 ≡ Some 80000)
    × (units_most_at first_tune 3 ≡ None)
    -- words that nobody may call, those for wizards, and those for all
    × (is_offered (acting_at 4 1) Nobody ≡ false)
    × (is_offered (acting_at 3 1) Wizards ≡ false)
    × (is_offered (acting_at 4 1) Wizards ≡ true)
    × (is_offered (acting_at 0 1) All ≡ true)
    -- who may not start a program is told by which rule, and nothing is started
    × (queues (tries 2).live.board.connections ≡ (codes "Permission denied (P1)." ∷ []) ∷ [])
    × (length (tries 2).queue.processes ≡ 0)
    × (queues (tries 1).live.board.connections ≡ [] ∷ [])
    × (length (tries 1).queue.processes ≡ 1)
    -- a program begins at its last word, also where it is called without a name; and else at the word of that name
    × (stands (form_started (by_hook starting_world) by_one (Some two_words) starting_world).0 ≡ Some (pushes 2) ∷ [])
    -- with ME, LOC, TRIGGER and COMMAND, and its argument on the stack
    × (begins.common ≡ object (pos 2) ∷ object (pos 0) ∷ object (pos 3) ∷ text (codes "bell now") ∷ [])
    × (begins.stack ≡ text (codes "now") ∷ [])
    × (called None ≡ Some (pushes 2))
    × (called (Some (codes "First")) ≡ Some (pushes 1))
    × (called (Some (codes "third")) ≡ None)
    -- a salt has all of two random words
    × (salt_of 1 2 ≡ 4294967298)

pub event_rows : EventRows
unfolding EventRows first_tune early_board object_at number_in kind_in object_in room_zero player_one world_booted starting_world empty_queue number_most is_queue_full process_added new_process program_begun launched form_at formed told_one tell sent_lines queue_most sent_lines_bytes line_sent lines_sent text_sent denied_text refused level_at owner_at flag_at effective digits
event_rows = (refl, refl, refl, refl, refl, refl, refl, refl, refl, refl, refl, refl, refl, refl, refl, refl, refl, refl)
