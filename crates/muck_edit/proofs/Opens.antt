-- An editor stays open, and what a line of it does is open to its actor.
use Rattle.std.proofs.Common.{◌≡◌, ℕ, zero, suc, ◌+◌, ◌-◌, ◌<◌, ◌≤◌, ◌==◌, Bool, true, false, ◌&&◌, cond, nat_lt, nat_le, List, ◌++◌, length, take, drop, codes, bytes_eq, Option, Some, None, Result, Ok, Err, IfSome, OnOk, refl, sym, ◌∙◌, ap, subst, slice_get, arith}
use Rattle.muck_laws.proofs.Parts.{inserted_few, removed_few}
use Rattle.spec_live.proofs.Keeping.{keeps_followed}
use Rattle.std.proofs.lemmas.Bool.{ltb-true, leb-true, ltb-false}
use Rattle.std.specs.Option.{option_map, option_and_then, option_map_or}
use Rattle.muck_model.specs.Bytes.{lines_most}
use Rattle.muck_model.specs.declared.dbref.Dbref.{Dbref}
use Rattle.muck_model.specs.declared.dbref.Denial.{Denial}
use Rattle.muck_model.specs.declared.edit.EditState.{EditState}
use Rattle.muck_model.specs.declared.memory.NoMemory.{NoMemory}
use Rattle.muck_model.specs.Decimal.{is_decimal, value_from, decimal_of}
use Rattle.spec_live.specs.declared.object.Object.{Object}
use Rattle.spec_live.specs.Objects.{Entry, dbref_of, is_garbage, is_program, object_in, object_at, number_in}
use Rattle.spec_live.specs.Setting.{with_lines, lines_set}
use Rattle.spec_live.specs.Lives.{Live, Change, change_followed, reading, either, unchanged, tell}
use Rattle.spec_live.proofs.Lists.{get_changed_same}
use Rattle.spec_rights.specs.declared.act.Actor.{Actor}
use Rattle.spec_rights.specs.declared.act.Act.TheVariants.{Edit}
use Rattle.spec_rights.specs.Verdict.{verdict}
use Rattle.spec_rights.specs.Asking.{denial_answered, asked, refused}
use Rattle.spec_rights.specs.Changing.{lines_kept}
use Rattle.spec_rights.specs.Licence.{Licensed, editing}
use Rattle.spec_rights.proofs.Licences.{Quiet, quiet_order}
use Rattle.spec_rights.proofs.Lookups.{alive, seen_at, number_is}
use Rattle.spec_rights.proofs.Shown.{quiet_tell, quiet_refused}
use Rattle.spec_commands.specs.declared.edit.EditCommand.{EditCommand}
use Rattle.spec_commands.specs.declared.edit.EditCommand.TheVariants.{Insert, Delete, Show, Compile, Quit}
use Rattle.spec_commands.specs.declared.edit.EditStep.{EditStep}
use Rattle.spec_commands.specs.declared.edit.EditStep.TheVariants.{Stay, Compile as ToCompile, Left}
use Rattle.spec_commands.specs.Texts.{first_word, other_words, trimmed, is_alike}
use Rattle.spec_commands.specs.Finding.{where_so, is_object_so}
use Rattle.spec_commands.specs.Going.{is_program_there}
use Rattle.spec_commands.specs.Programming.{source_of}
use Rattle.spec_commands.specs.Reading.{is_empty}
use Rattle.spec_commands.specs.Editing.{entering_reply, exiting, deleted_reply, editor_exited, illegal, line_number, plain_command, line_command, lines_command, one_line, two_lines, edit_command, lines_most, editing_stepped, with_line, line_inserted, same_lines, source_kept, edit_done, edit_some, edited_at, edited_by_line, IsOpen}
use Rattle.spec_commands.proofs.Programmed.{quiet_lines_shown}
use Rattle.spec_commands.proofs.Edited.{edited_proper}
use Rattle.muck_perm.specs.declared.guard.Guard.{Guard}
use Rattle.muck_perm.specs.inner.Guards.{world_of}
use Rattle.muck_edit.specs.inner.Edits.{Edits, IsWithin}

-- The program stays there.

abbrev is_there : Dbref → List Entry → Bool
is_there x es = option_map_or (λ (o : Object). is_program o.kind) (object_at x es) false

kept_at : (m : ℕ) (lines : List (List ℕ)) (es : List Entry) → is_there (dbref_of m) es ≡ true → is_there (dbref_of m) (lines_set lines m es) ≡ true
unfolding object_in
kept_at m lines es h =
    let Is : Option Object → Type 0 = λ o. option_map_or (λ (o : Object). is_program o.kind) o false ≡ true in
    let seen : Option Entry → Option Object = λ q. option_and_then alive (option_map (λ (e : Entry). e.object) q) in
    let after : object_at (dbref_of m) (lines_set lines m es) ≡ seen (option_map (with_lines lines) (slice_get es m)) = seen_at (lines_set lines m es) m ∙ ap seen (get_changed_same es m (with_lines lines)) in
    subst Is (sym after) (by_entry (slice_get es m) (subst Is (seen_at es m) h))
  where
    by_kind : (e : Entry) (b : Bool) → option_map_or (λ (o : Object). is_program o.kind) (cond b None (Some e.object)) false ≡ true →
        option_map_or (λ (o : Object). is_program o.kind) (cond b None (Some (with_lines lines e).object)) false ≡ true
    by_kind e true h = h
    by_kind e false h = h

    by_entry : (q : Option Entry) → option_map_or (λ (o : Object). is_program o.kind) (option_and_then alive (option_map (λ (e : Entry). e.object) q)) false ≡ true →
        option_map_or (λ (o : Object). is_program o.kind) (option_and_then alive (option_map (λ (e : Entry). e.object) (option_map (with_lines lines) q))) false ≡ true
    by_entry None h = h
    by_entry (Some e) h = by_kind e (is_garbage e.object.kind) h

kept_there : (x : Dbref) (lines : List (List ℕ)) (w : Live) → is_program_there x w ≡ true → is_program_there x (lines_kept x lines w) ≡ true
unfolding is_object_so lines_kept
kept_there x lines w h = by_number (number_in w.objects x) refl
  where
    by_number : (q : Option ℕ) → number_in w.objects x ≡ q → is_there x (option_map_or (λ n. lines_set lines n w.objects) q w.objects) ≡ true
    by_number None e = h
    by_number (Some m) e =
        let P : Dbref → Type 0 = λ y. is_there y w.objects ≡ true → is_there y (lines_set lines m w.objects) ≡ true in
        subst P (sym (number_is w.objects x m e)) (kept_at m lines w.objects) h

quiet_there : (x : Dbref) (f : Change) → Quiet f → (w : Live) → is_program_there x w ≡ true → is_program_there x (f w) ≡ true
unfolding is_object_so
quiet_there x f q w h = let P : List Entry → Type 0 = λ es. is_there x es ≡ true in subst P (sym (q.law w).objects) h

-- The places of commands.

number_within : (count : ℕ) (word : List ℕ) → IfSome (line_number count word) (λ n. (1 ≤ n) × (n ≤ count))
unfolding line_number decimal_of
number_within count word = by_value (value_from 0 word) (is_decimal word) (nat_le (value_from 0 word) count) refl
  where
    positive : (v : ℕ) → v == 0 ≡ false → 1 ≤ v
    positive zero e = absurd (cc e)
    positive (suc v) e = omega arith

    by_zero : (v : ℕ) → v ≤ count → (z : Bool) → v == 0 ≡ z → IfSome (cond z None (Some v)) (λ n. (1 ≤ n) × (n ≤ count))
    by_zero v h true e = tt
    by_zero v h false e = (positive v e, h)

    by_value : (v : ℕ) (b c : Bool) → nat_le v count ≡ c → IfSome (option_and_then (λ (n : ℕ). cond (n == 0) None (Some n)) (cond (b && c) (Some v) None)) (λ n. (1 ≤ n) × (n ≤ count))
    by_value v false c e = tt
    by_value v true false e = tt
    by_value v true true e = by_zero v (leb-true v count e) (v == 0) refl

plain_within : (count : ℕ) (word : List ℕ) → IfSome (plain_command count word) (IsWithin count)
unfolding plain_command
plain_within count word = by_cases (is_alike word (codes "i")) (is_alike word (codes "l")) (is_alike word (codes "c")) (is_alike word (codes "q"))
  where
    by_cases : (i l c q : Bool) → IfSome (cond i (Some (Insert count)) (cond l (Some (Show 0 count)) (cond c (Some Compile) (cond q (Some Quit) None)))) (IsWithin count)
    by_cases true l c q = omega arith
    by_cases false true c q = (omega arith, omega arith)
    by_cases false false true q = tt
    by_cases false false false true = tt
    by_cases false false false false = tt

line_within : (count n : ℕ) (word : List ℕ) → (1 ≤ n) × (n ≤ count) → IfSome (line_command n word) (IsWithin count)
unfolding line_command
line_within count n word h = by_cases (is_alike word (codes "i")) (is_alike word (codes "d"))
  where
    by_cases : (i d : Bool) → IfSome (cond i (Some (Insert (n - 1))) (cond d (Some (Delete (n - 1) n)) None)) (IsWithin count)
    by_cases true d = let most : n ≤ count = h.1 in omega arith
    by_cases false true = (omega arith, h.1)
    by_cases false false = tt

lines_within : (count first last : ℕ) (word : List ℕ) → last ≤ count → IfSome (lines_command first last word) (IsWithin count)
unfolding lines_command
lines_within count first last word h = by_cases (nat_lt last first) refl (is_alike word (codes "d")) (is_alike word (codes "l"))
  where
    ordered : nat_lt last first ≡ false → first - 1 ≤ last
    ordered e = let least : first ≤ last = ltb-false last first e in omega arith

    by_cases : (b : Bool) → nat_lt last first ≡ b → (d l : Bool) → IfSome (cond b None (cond d (Some (Delete (first - 1) last)) (cond l (Some (Show (first - 1) last)) None))) (IsWithin count)
    by_cases true e d l = tt
    by_cases false e true l = (ordered e, h)
    by_cases false e false true = (ordered e, h)
    by_cases false e false false = tt

one_within : (count : ℕ) (number word : List ℕ) → IfSome (one_line count number word) (IsWithin count)
one_within count number word = by_number (line_number count number) (number_within count number)
  where
    by_number : (q : Option ℕ) → IfSome q (λ n. (1 ≤ n) × (n ≤ count)) → IfSome (option_and_then (λ n. line_command n word) q) (IsWithin count)
    by_number None h = tt
    by_number (Some n) h = line_within count n word h

two_within : (count : ℕ) (from to word : List ℕ) → IfSome (two_lines count from to word) (IsWithin count)
two_within count from to word = by_first (line_number count from)
  where
    by_last : (first : ℕ) (q : Option ℕ) → IfSome q (λ n. (1 ≤ n) × (n ≤ count)) → IfSome (option_and_then (λ last. lines_command first last word) q) (IsWithin count)
    by_last first None h = tt
    by_last first (Some last) h = lines_within count first last word h.1

    by_first : (q : Option ℕ) → IfSome (option_and_then (λ first. option_and_then (λ last. lines_command first last word) (line_number count to)) q) (IsWithin count)
    by_first None = tt
    by_first (Some first) = by_last first (line_number count to) (number_within count to)

command_within : (count : ℕ) (line : List ℕ) → IfSome (edit_command count line) (IsWithin count)
unfolding edit_command
command_within count line =
    let text : List ℕ = trimmed line in
    let others : List ℕ = trimmed (other_words text) in
    let last : List ℕ = trimmed (other_words others) in
    by_cases text others last (is_empty others) (is_empty last)
  where
    by_cases : (text others last : List ℕ) (b c : Bool) →
        IfSome (cond b (plain_command count text) (cond c (one_line count (first_word text) others) (two_lines count (first_word text) (first_word others) last))) (IsWithin count)
    by_cases text others last true c = plain_within count text
    by_cases text others last false true = one_within count (first_word text) others
    by_cases text others last false false = two_within count (first_word text) (first_word others) last

-- An editor stays open.

abbrev IsOpenAfter : Live × EditState × EditStep → Type 0
IsOpenAfter r = IsOpen r.1 r.0

still_open : (s : EditState) (f : Change) → Quiet f → (w : Live) → IsOpen s w → IsOpen s (f w)
still_open s f q w h = record { program = quiet_there s.program f q w h.program; few = h.few; within = h.within }

kept_open : (s : EditState) (lines : List (List ℕ)) (w : Live) → IsOpen s w → IsOpen s (source_kept s.program lines w)
unfolding source_kept where_so reading either unchanged
kept_open s lines w h = by_case (same_lines (source_of s.program w) lines)
  where
    by_case : (b : Bool) → IsOpen s (cond b w (lines_kept s.program lines w))
    by_case true = h
    by_case false = record { program = kept_there s.program lines w h.program; few = h.few; within = h.within }

inserted_after : (d : ℕ) (s : EditState) (at : ℕ) (line : List ℕ) (w : Live) → at ≤ length s.lines → IsOpen s w → IsOpenAfter (line_inserted d s at line w)
unfolding line_inserted editing_stepped unchanged
inserted_after d s at line w p h = by_cases (bytes_eq line (codes ".")) (nat_lt (length s.lines) lines_most) refl
  where
    by_cases : (b c : Bool) → nat_lt (length s.lines) lines_most ≡ c → IsOpenAfter (cond b (editing_stepped Stay (record s { inserting = None }) (tell d exiting)) (cond c (editing_stepped Stay (with_line at line s) unchanged) (editing_stepped Stay s (tell d illegal))) w)
    by_cases true c e = record { program = quiet_there s.program (tell d exiting) (quiet_tell d exiting) w h.program; few = h.few; within = tt }
    by_cases false true e =
        let below : length s.lines < lines_most = ltb-true (length s.lines) lines_most e in
        let room : length s.lines + 1 ≤ lines_most = omega arith in
        record { program = h.program; few = rw (inserted_few at line s.lines p) room; within = rw (inserted_few at line s.lines p) (omega arith) }
    by_cases false false e = still_open s (tell d illegal) (quiet_tell d illegal) w h

done_after : (d : ℕ) (a : Actor) (s : EditState) (command : EditCommand) (w : Live) → s.inserting ≡ None → IsWithin (length s.lines) command → IsOpen s w → IsOpenAfter (edit_done d a s command w)
unfolding edit_done editing_stepped asked change_followed
done_after d a s (Insert at) w e p h = record { program = quiet_there s.program (tell d entering_reply) (quiet_tell d entering_reply) w h.program; few = h.few; within = p }
done_after d a s (Delete from to) w e p h =
    let P : Option ℕ → Type 0 = λ q. IfSome q (λ at. at ≤ length (take from s.lines ++ drop to s.lines)) in
    let fewer : length (take from s.lines ++ drop to s.lines) ≤ length s.lines = removed_few from to s.lines p.0 p.1 in
    let few : length s.lines ≤ lines_most = h.few in
    record { program = quiet_there s.program (tell d deleted_reply) (quiet_tell d deleted_reply) w h.program; few = omega arith; within = subst P (sym e) tt }
done_after d a s (Show from to) w e p h = still_open s _ (quiet_lines_shown d _) w h
done_after d a s Compile w e p h = by_verdict (verdict w.objects a (Edit s.program))
  where
    by_verdict : (v : Option Denial) → IsOpenAfter (denial_answered v (λ denial. editing_stepped Stay s (refused d denial)) (editing_stepped ToCompile s (source_kept s.program s.lines)) w)
    by_verdict None = kept_open s s.lines w h
    by_verdict (Some denial) = still_open s (refused d denial) (quiet_refused d denial) w h
done_after d a s Quit w e p h = by_verdict (verdict w.objects a (Edit s.program))
  where
    by_verdict : (v : Option Denial) → IsOpenAfter (denial_answered v (λ denial. editing_stepped Left s (change_followed (refused d denial) (tell d editor_exited))) (editing_stepped Left s (change_followed (source_kept s.program s.lines) (tell d editor_exited))) w)
    by_verdict None = still_open s (tell d editor_exited) (quiet_tell d editor_exited) (source_kept s.program s.lines w) (kept_open s s.lines w h)
    by_verdict (Some denial) = still_open s _ (keeps_followed _ _ quiet_order (quiet_refused d denial) (quiet_tell d editor_exited)) w h

some_after : (d : ℕ) (a : Actor) (s : EditState) (command : Option EditCommand) (w : Live) → s.inserting ≡ None → IfSome command (IsWithin (length s.lines)) → IsOpen s w → IsOpenAfter (edit_some d a s command w)
unfolding editing_stepped
some_after d a s None w e p h = still_open s (tell d illegal) (quiet_tell d illegal) w h
some_after d a s (Some command) w e p h = done_after d a s command w e p h

open_after : (d : ℕ) (a : Actor) (s : EditState) (line : List ℕ) (w : Live) → IsOpen s w → IsOpenAfter (edited_by_line d a s line w)
unfolding edited_by_line
open_after d a s line w h = by_place s.inserting refl
  where
    by_place : (q : Option ℕ) → s.inserting ≡ q → IsOpenAfter (edited_at d a s line q w)
    by_place (Some at) e = let P : Option ℕ → Type 0 = λ q. IfSome q (λ n. n ≤ length s.lines) in inserted_after d s at line w (subst P e h.within) h
    by_place None e = some_after d a s (edit_command (length s.lines) line) w e (command_within (length s.lines) line) h

-- What a call of the editor keeps.

pub edits_open : (d : ℕ) (line : List ℕ) (s state : EditState) (old new : Guard) (result : Result EditStep NoMemory) → IsOpen s (world_of old) → Edits (edited_by_line d old.actor s line) old new state result → OnOk result (IsOpen state (world_of new))
edits_open d line s state old new (Ok step) h p =
    let P : Live → Type 0 = λ w. IsOpen state w in
    let Q : EditState → Type 0 = λ t. IsOpen t (edited_by_line d old.actor s line (world_of old)).0 in
    subst P (sym p.0.0) (subst Q (sym p.1) (open_after d old.actor s line (world_of old) h))
edits_open d line s state old new (Err e) h p = tt

pub edits_licensed : (d : ℕ) (line : List ℕ) (s state : EditState) (old new : Guard) (result : Result EditStep NoMemory) → Edits (edited_by_line d old.actor s line) old new state result →
    OnOk result (Licensed old.actor (editing s.program) (world_of old) (world_of new))
edits_licensed d line s state old new (Ok step) p =
    let P : Live → Type 0 = λ w. Licensed old.actor (editing s.program) (world_of old) w in
    subst P (sym p.0.0) (edited_proper d old.actor s line (world_of old)).licensed
edits_licensed d line s state old new (Err e) p = tt
