-- The process that a line ends.
use Rattle.std.proofs.Common.{◌≡◌, ℕ, ℤ, pos, Bool, true, false, cond, is_none, arith, List, [], ◌∷◌, map, refl, sym, ◌∙◌, ap, subst, Option, Some, None}
use Rattle.std.specs.Prelude.{find}
use Rattle.std.specs.Option.{option_and_then}
use Rattle.std.specs.Char.{to_ascii_lowercase}
use Rattle.std.proofs.lemmas.Bool.Decides.{Decides-int_eq}
use Rattle.muck_model.specs.declared.dbref.Denial.{Denial}
use Rattle.muck_model.specs.Decimal.{decimal_of}
use Rattle.spec_live.specs.Lives.{Live, reading, either, where_so, tell}
use Rattle.spec_rights.specs.declared.act.Actor.{Actor}
use Rattle.spec_rights.specs.Verdict.{verdict}
use Rattle.spec_rights.specs.Asking.{denial_answered, asked, denied_text, refused}
use Rattle.spec_commands.specs.Texts.{first_word, other_words, trimmed}
use Rattle.spec_commands.specs.Replies.{usage}
use Rattle.spec_commands.specs.Going.{ended}
use Rattle.spec_commands.specs.Reading.{looked_up, incomplete, with_fit, with_parts, with_arguments, with_command_word, by_table}
use Rattle.muck_queue.specs.declared.process.Process.{Process}
use Rattle.muck_queue.specs.Queues.{Queue, has_pid, process}
use Rattle.spec_admin.specs.declared.word.AdminWord.{AdminWord}
use Rattle.spec_admin.specs.declared.word.AdminWord.TheVariants.{Kill}
use Rattle.spec_admin.specs.Replies.{killed_reply, no_process_reply}
use Rattle.spec_admin.specs.Processes.{ending_act, may_end, process_meant, end_told, kill_told, process_killed}
use Rattle.spec_admin.specs.Lines.{admin_words, admin_shape, admin_done, admin_line, ended_by, line_ends}

-- a process that is found by a number has it
found_numbered : (pid : ℤ) (ps : List Process) (p : Process) → find (has_pid pid) ps ≡ Some p → p.number ≡ pid
found_numbered pid [] p e = absurd (cc)
found_numbered pid (r ∷ ps) p e = at (has_pid pid r) refl (found_numbered pid ps p) e
  where
    at : (b : Bool) → has_pid pid r ≡ b → (find (has_pid pid) ps ≡ Some p → p.number ≡ pid) → cond b (Some r) (find (has_pid pid) ps) ≡ Some p → p.number ≡ pid
    at true is rest e = let same : r ≡ p = cc in ap (λ (x : Process). x.number) (sym same) ∙ (Decides-int_eq r.number pid).0 is
    at false is rest e = rest e

-- what a text means is there by its own number
meant_there : (text : List ℕ) (q : Queue) (p : Process) → process_meant text q ≡ Some p → process p.number q ≡ Some p
meant_there text q p = at (decimal_of 2147483647 text)
  where
    at : (n : Option ℕ) → option_and_then (λ n. process (pos n) q) n ≡ Some p → process p.number q ≡ Some p
    at None e = absurd (cc)
    at (Some n) e = ap (λ pid. process pid q) (found_numbered (pos n) q.processes p e) ∙ e

-- what ends is meant, and may be ended
killed_meant : (a : Actor) (q : Queue) (text : List ℕ) (w : Live) (p : Process) → process_killed a q text w ≡ Some p → (may_end a w p ≡ true) × (process_meant text q ≡ Some p)
killed_meant a q text w p = at (process_meant text q)
  where
    here : (r : Process) (b : Bool) → may_end a w r ≡ b → cond b (Some r) None ≡ Some p → (may_end a w p ≡ true) × (Some r ≡ Some p)
    here r true f e = let same : r ≡ p = cc in (subst (λ x. may_end a w x ≡ true) same f, ap Some same)
    here r false f e = absurd (cc)

    at : (m : Option Process) → option_and_then (λ r. cond (may_end a w r) (Some r) None) m ≡ Some p → (may_end a w p ≡ true) × (m ≡ Some p)
    at None e = absurd (cc)
    at (Some r) e = here r (may_end a w r) refl e

-- a line ends only a process that is there, and that who types it may end
pub line_ends_open : (a : Actor) (q : Queue) (line : List ℕ) (w : Live) (p : Process) → line_ends a q line w ≡ Some p → (may_end a w p ≡ true) × (process p.number q ≡ Some p)
unfolding line_ends
line_ends_open a q line w p = at (looked_up admin_words (first_word (trimmed line)))
  where
    text : List ℕ
    text = trimmed (other_words (trimmed line))

    at : (command : Option AdminWord) → ended_by a q text w command ≡ Some p → (may_end a w p ≡ true) × (process p.number q ≡ Some p)
    at (Some Kill) e = let k = killed_meant a q text w p e in (k.0, meant_there text q p k.1)
    at command e = absurd (cc)

-- Where a process ends it is told that it was killed, and else another text is.
abbrev pub TellsKilled : ℕ → Live → Live → Option Process → Type 0
TellsKilled d w v (Some p) = v ≡ tell d killed_reply w
TellsKilled d w v None = (text : List ℕ) × (text ≡ killed_reply → ⊥) × (v ≡ tell d text w)

-- the second byte of each text is another
abbrev second : List ℕ → ℕ
second [] = 0
second (b ∷ []) = 0
second (b ∷ c ∷ text) = c

other_none : no_process_reply ≡ killed_reply → ⊥
unfolding no_process_reply killed_reply
other_none e = let differ : 111 ≡ 114 = ap second e in omega (arith, differ)

other_denied : (denial : Denial) → denied_text denial ≡ killed_reply → ⊥
unfolding denied_text killed_reply
other_denied denial e = let differ : 101 ≡ 114 = ap second e in omega (arith, differ)

other_usage : (word : List ℕ) → usage word ≡ killed_reply → ⊥
unfolding usage killed_reply
other_usage word e = let differ : 115 ≡ 114 = ap second e in omega (arith, differ)

kill_tells : (d : ℕ) (a : Actor) (q : Queue) (text : List ℕ) (w : Live) → TellsKilled d w (kill_told d a q text w) (process_killed a q text w)
unfolding kill_told asked refused
kill_tells d a q text w = at (process_meant text q)
  where
    judged : (p : Process) (v : Option Denial) → TellsKilled d w (denial_answered v (refused d) (tell d killed_reply) w) (cond (is_none v) (Some p) None)
    judged p None = refl
    judged p (Some denial) = (denied_text denial, other_denied denial, refl)

    at : (m : Option Process) → TellsKilled d w (end_told d a m w) (option_and_then (λ p. cond (may_end a w p) (Some p) None) m)
    at None = (no_process_reply, other_none, refl)
    at (Some p) = judged p (verdict w.objects a (ending_act p))

-- what `@kill` tells by what is typed behind it

kill_missing : (d : ℕ) (a : Actor) (q : Queue) (word : List ℕ) (w : Live) → (with_arguments d a word (admin_shape Kill) [] (admin_done q d a Kill) w).0 ≡ tell d (usage (map to_ascii_lowercase word)) w
unfolding with_arguments either ended incomplete
kill_missing d a q word w = refl

kill_given : (d : ℕ) (a : Actor) (q : Queue) (word : List ℕ) (b : ℕ) (text : List ℕ) (w : Live) → (with_arguments d a word (admin_shape Kill) (b ∷ text) (admin_done q d a Kill) w).0 ≡ kill_told d a q (b ∷ text) w
unfolding with_arguments with_parts with_fit where_so reading either ended admin_done
kill_given d a q word b text w = refl

none_meant : (q : Queue) → process_meant [] q ≡ None
unfolding decimal_of
none_meant q = refl

kill_typed : (d : ℕ) (a : Actor) (q : Queue) (word text : List ℕ) (w : Live) → TellsKilled d w (with_arguments d a word (admin_shape Kill) text (admin_done q d a Kill) w).0 (process_killed a q text w)
kill_typed d a q word [] w =
    let P : Option Process → Type 0 = λ m. TellsKilled d w (with_arguments d a word (admin_shape Kill) [] (admin_done q d a Kill) w).0 (option_and_then (λ p. cond (may_end a w p) (Some p) None) m) in
    subst P (sym (none_meant q)) (usage (map to_ascii_lowercase word), other_usage (map to_ascii_lowercase word), kill_missing d a q word w)
kill_typed d a q word (b ∷ text) w =
    let P : Live → Type 0 = λ v. TellsKilled d w v (process_killed a q (b ∷ text) w) in
    subst P (sym (kill_given d a q word b text w)) (kill_tells d a q (b ∷ text) w)

-- `@kill` tells that a process was killed exactly where the line ends one
pub kill_line_tells : (d : ℕ) (a : Actor) (q : Queue) (line : List ℕ) (w : Live) → looked_up admin_words (first_word (trimmed line)) ≡ Some Kill → TellsKilled d w (admin_line q d a line w).0 (line_ends a q line w)
unfolding admin_line by_table line_ends
kill_line_tells d a q line w = at (looked_up admin_words (first_word (trimmed line)))
  where
    word : List ℕ
    word = first_word (trimmed line)

    text : List ℕ
    text = trimmed (other_words (trimmed line))

    at : (command : Option AdminWord) → command ≡ Some Kill → TellsKilled d w (with_command_word admin_shape (admin_done q d a) d a word text command w).0 (ended_by a q text w command)
    at (Some Kill) e = kill_typed d a q word text w
    at command e = absurd (cc)
