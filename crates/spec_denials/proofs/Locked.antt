-- Where a lock doesn't let a player through an exit, or take something, notes alone are touched.
use Rattle.std.proofs.Common.{◌≡◌, ℕ, Bool, true, false, cond, List, [], ◌∷◌, map, Option, Some, None, refl}
use Rattle.std.specs.Prelude.{◌||◌, ◌==◌, option_map, codes}
use Rattle.std.specs.Char.{to_ascii_lowercase}
use Rattle.std.specs.Option.{option_or, option_and_then}
use Rattle.muck_model.specs.declared.dbref.Dbref.{Dbref}
use Rattle.muck_model.specs.declared.dbref.Denial.{Denial}
use Rattle.muck_match.specs.declared.exits.ExitHit.{ExitHit}
use Rattle.muck_match.specs.declared.naming.Found.{Found}
use Rattle.muck_match.specs.declared.naming.Found.TheVariants.{One}
use Rattle.muck_match.specs.Exits.{exit_for}
use Rattle.muck_match.specs.Naming.{thing_found}
use Rattle.spec_live.specs.Lives.{Live, Change, unchanged, tell, reading, either, where_so, change_followed, ◌▸◌}
use Rattle.spec_live.specs.Objects.{nothing}
use Rattle.spec_live.specs.Seen.{scenery_of}
use Rattle.spec_live.proofs.Keeping.{keeps_followed, keeps_unchanged}
use Rattle.spec_rights.specs.declared.act.Actor.{Actor}
use Rattle.spec_rights.specs.declared.act.Act.{Act}
use Rattle.spec_rights.specs.declared.act.Act.TheVariants.{Walk, Take}
use Rattle.spec_rights.specs.Asking.{denial_answered, asked, denied_text, refused}
use Rattle.spec_rights.specs.Verdict.{verdict}
use Rattle.spec_rights.proofs.Shown.{quiet_tell}
use Rattle.spec_mpi.specs.Touching.{TouchesNotes}
use Rattle.spec_mpi.proofs.Deeds.{touching_order, notes_quiet}
use Rattle.spec_commands.specs.declared.outcome.Outcome.{Outcome}
use Rattle.spec_commands.specs.declared.outcome.Outcome.TheVariants.{Done}
use Rattle.spec_commands.specs.declared.typed.Typed.{Typed}
use Rattle.spec_live.specs.declared.message.Message.TheVariants.{Fail, OthersFail}
use Rattle.spec_commands.specs.declared.word.PlayWord.{PlayWord}
use Rattle.spec_commands.specs.declared.word.PlayWord.TheVariants.{Say, Pose, Go, Get}
use Rattle.spec_commands.specs.Commands.{play_words, play_shape, play_done, line_typed, begins_with_sign, said_by_sign, play_line, build_line, or_next, play_or_else, commanded, through, played}
use Rattle.spec_commands.specs.Finding.{finding, object_chosen, shown_others, message_or, message_to_others}
use Rattle.spec_commands.specs.Going.{ended, succeeded, failed, thing_moving, link_at, led, exit_typed, tried, exit_walked, walked_some, player_went, is_item, not_taken, thing_taken}
use Rattle.spec_commands.specs.Reading.{looked_up, object_sought, with_fit, with_parts, with_arguments, with_command_word, by_table, incomplete, argued}
use Rattle.spec_commands.specs.Programming.{command_over}
use Rattle.spec_commands.specs.Replies.{cant_be_done, cant_go, cant_take, taken_reply, usage}
use Rattle.spec_commands.specs.Texts.{first_word, other_words, trimmed}
use Rattle.spec_commands.proofs.Noted.{Notes, notes_with_message, notes_shown_others}
use Rattle.spec_denials.specs.Walks.{walk_by, take_of, word_act, lock_verdict}

-- What is shown.

notes_tell : (d : ℕ) (text : List ℕ) → Notes (tell d text)
notes_tell d text = notes_quiet _ (quiet_tell d text)

notes_failed : (d : ℕ) (a : Actor) (typed : Typed) (otherwise : List ℕ) (x : Dbref) → Notes (failed d a typed otherwise x)
unfolding failed message_or message_to_others
notes_failed d a typed otherwise x =
    keeps_followed _ _ touching_order (notes_with_message a typed Fail x (tell d otherwise) (tell d) (notes_tell d otherwise) (λ text. notes_tell d text))
    (notes_with_message a typed OthersFail x unchanged (λ text. shown_others a.player (32 ∷ text)) (keeps_unchanged touching_order) (λ text. notes_shown_others a.player (32 ∷ text)))

-- a line that is done, and touched notes alone
abbrev pub Shows : Live → Live × Outcome → Type 0
Shows w (v, Done) = TouchesNotes w v
Shows w (v, outcome) = ⊥

shows_next : (next : Live → Live × Outcome) (w : Live) (r : Live × Outcome) → Shows w r → Shows w (or_next next r)
shows_next next w (v, Done) h = h
shows_next next w _ h = absurd h

pub shows_or : (f g : Live → Live × Outcome) (w : Live) → Shows w (f w) → Shows w (play_or_else f g w)
unfolding play_or_else
shows_or f g w h = shows_next g w (f w) h

shows_ended : (f : Change) (w : Live) → Notes f → Shows w (ended Done f w)
unfolding ended
shows_ended f w p = p.law w

-- Exits.

tried_shows : (d : ℕ) (a : Actor) (typed : Typed) (exit : Dbref) (line : List ℕ) (w : Live) (denial : Denial) → verdict w.objects a (Walk exit) ≡ Some denial → Shows w (tried d a typed exit line w)
unfolding tried asked
tried_shows d a typed exit line w denial e = at (verdict w.objects a (Walk exit)) e
  where
    go : Live → Live × Outcome
    go = change_followed (succeeded d a typed exit) (reading (link_at exit) (led d a typed exit line))

    at : (o : Option Denial) → o ≡ Some denial → Shows w (denial_answered o (λ denial. ended Done (failed d a typed cant_go exit)) go w)
    at None e = absurd cc
    at (Some x) e = shows_ended (failed d a typed cant_go exit) w (notes_failed d a typed cant_go exit)

walked_shows : (d : ℕ) (a : Actor) (hit : ExitHit) (line : List ℕ) (w : Live) (denial : Denial) → verdict w.objects a (Walk hit.exit) ≡ Some denial → Shows w (exit_walked d a hit line w)
unfolding exit_walked reading
walked_shows d a hit line w denial e = tried_shows d a (exit_typed hit line w) hit.exit line w denial e

went_shows : (d : ℕ) (a : Actor) (line : List ℕ) (w : Live) (denial : Denial) → option_and_then (verdict w.objects a) (walk_by a line w.objects) ≡ Some denial → Shows w (player_went d a line w)
unfolding player_went reading
went_shows d a line w denial e = at (exit_for (scenery_of w.objects) a.player line) e
  where
    at : (o : Option ExitHit) → option_and_then (verdict w.objects a) (option_map (λ hit. Walk hit.exit) o) ≡ Some denial → Shows w (walked_some d a line o w)
    at None e = absurd cc
    at (Some hit) e = walked_shows d a hit line w denial e

-- Taking.

taken_notes : (d : ℕ) (a : Actor) (typed : Typed) (x : Dbref) (w : Live) (denial : Denial) → verdict w.objects a (Take x) ≡ Some denial → TouchesNotes w (thing_taken d a typed x w)
unfolding thing_taken where_so reading either asked refused
taken_notes d a typed x w denial e = at (is_item x w)
  where
    go : Change
    go = succeeded d a typed x ▸ thing_moving d x a.player (tell d taken_reply)

    told_so : (o : Denial) (b : Bool) → TouchesNotes w (cond b (failed d a typed cant_take x w) (refused d o w))
    told_so o true = (notes_failed d a typed cant_take x).law w
    told_so o false = (notes_tell d (denied_text o)).law w

    by : (o : Option Denial) → o ≡ Some denial → TouchesNotes w (denial_answered o (not_taken d a typed x) go w)
    by None e = absurd cc
    by (Some o) e = told_so o (o.rule == 10)

    at : (b : Bool) → TouchesNotes w (cond b (denial_answered (verdict w.objects a (Take x)) (not_taken d a typed x) go w) (tell d cant_be_done w))
    at true = by (verdict w.objects a (Take x)) e
    at false = (notes_tell d cant_be_done).law w

-- Words.

module _ (d : ℕ) (a : Actor) (typed : Typed) (name : List ℕ) (w : Live) (denial : Denial) where
  abbrev Denies : Option Act → Type 0
  Denies act = option_and_then (verdict w.objects a) act ≡ Some denial

  notes_usage : Notes (incomplete d name)
  unfolding incomplete
  notes_usage = notes_tell d (usage (map to_ascii_lowercase name))

  go_shows : (text : List ℕ) → Denies (walk_by a text w.objects) → Shows w (with_arguments d a name (play_shape Go) text (play_done d a typed Go) w)
  unfolding with_arguments with_parts with_fit where_so reading either play_done
  go_shows [] e = shows_ended (incomplete d name) w (notes_usage)
  go_shows (b ∷ text) e = went_shows d a (b ∷ text) w denial e

  get_shows : (text : List ℕ) → Denies (take_of (thing_found (scenery_of w.objects) a.player text)) → Shows w (with_arguments d a name (play_shape Get) text (play_done d a typed Get) w)
  unfolding with_arguments with_parts with_fit object_sought finding where_so reading either play_done ended
  get_shows [] e = shows_ended (incomplete d name) w (notes_usage)
  get_shows (b ∷ text) e = at (thing_found (scenery_of w.objects) a.player (b ∷ text)) e
    where
      at : (o : Found) → Denies (take_of o) → Shows w (object_chosen (command_over d) (b ∷ text) (λ x. with_fit d (play_shape Get) (argued (b ∷ text) x [] nothing) (play_done d a typed Get)) o w)
      at (One x) e = taken_notes d a typed x w denial e
      at _ e = absurd cc

  word_shows : (text : List ℕ) (word : Option PlayWord) → Denies (word_act word a text w.objects) → Shows w (with_command_word play_shape (play_done d a typed) d a name text word w)
  word_shows text (Some Go) e = go_shows text e
  word_shows text (Some Get) e = get_shows text e
  word_shows text _ e = absurd cc

play_shows : (d : ℕ) (a : Actor) (line : List ℕ) (w : Live) (denial : Denial) → begins_with_sign line ≡ false →
    option_and_then (verdict w.objects a) (word_act (looked_up play_words (first_word (trimmed line))) a (trimmed (other_words (trimmed line))) w.objects) ≡ Some denial → Shows w (play_line d a line w)
unfolding play_line by_table play_words
play_shows d a [] w denial s e = absurd cc
play_shows d a (b ∷ line) w denial s e = at (b == 34) (b == 58) s
  where
    at : (q r : Bool) → (q || r) ≡ false → Shows w ((cond q (said_by_sign d a Say (codes "say") (trimmed line)) (cond r (said_by_sign d a Pose (codes "pose") (trimmed line))
        (with_command_word play_shape (play_done d a (line_typed (b ∷ line))) d a (first_word (trimmed (b ∷ line))) (trimmed (other_words (trimmed (b ∷ line)))) (looked_up play_words (first_word (trimmed (b ∷ line))))))) w)
    at true r s = absurd cc
    at false true s = absurd cc
    at false false s = word_shows d a (line_typed (b ∷ line)) (first_word (trimmed (b ∷ line))) w denial (trimmed (other_words (trimmed (b ∷ line)))) (looked_up play_words (first_word (trimmed (b ∷ line)))) e

-- A whole line.
pub played_shows : (d : ℕ) (a : Actor) (line : List ℕ) (w : Live) (denial : Denial) → lock_verdict a line w.objects ≡ Some denial → Shows w (played d a line w)
unfolding played reading commanded
played_shows d a line w denial e = at (begins_with_sign line) refl e
  where
    word : Option Act
    word = word_act (looked_up play_words (first_word (trimmed line))) a (trimmed (other_words (trimmed line))) w.objects

    unspoken : begins_with_sign line ≡ false → (o : Option ExitHit) → option_and_then (verdict w.objects a) (option_or (option_map (λ hit. Walk hit.exit) o) word) ≡ Some denial → Shows w (through d a line o w)
    unspoken s (Some hit) e = walked_shows d a hit line w denial e
    unspoken s None e = shows_or (play_line d a line) (build_line d a line) w (play_shows d a line w denial s e)

    at : (s : Bool) → begins_with_sign line ≡ s → option_and_then (verdict w.objects a) (cond s None (option_or (walk_by a line w.objects) word)) ≡ Some denial →
        Shows w ((cond s (commanded d a line) (reading (λ v. exit_for (scenery_of v.objects) a.player line) (through d a line))) w)
    at true s e = absurd cc
    at false s e = unspoken s (exit_for (scenery_of w.objects) a.player line) e
