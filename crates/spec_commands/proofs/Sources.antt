-- Of a source it is told only where a line of the editor changed it.
use Rattle.std.proofs.Common.{◌≡◌, ℕ, Bool, true, false, cond, List, [], ◌∷◌, length, codes, bytes_eq, nat_lt, refl, sym, ◌∙◌, ap, subst, Option, Some, None, inl, inr}
use Rattle.std.specs.Prelude.{◌⊎◌}
use Rattle.std.specs.Option.{option_map, option_and_then, option_map_or}
use Rattle.std.proofs.lemmas.Bool.{cases_eq}
use Rattle.std.proofs.lemmas.Slice.Eq.{bytes_eq-Decides}
use Rattle.muck_model.specs.declared.dbref.Dbref.{Dbref}
use Rattle.muck_model.specs.declared.dbref.Kind.TheVariants.{Garbage}
use Rattle.muck_model.specs.declared.edit.EditState.{EditState}
use Rattle.spec_live.specs.declared.object.Object.{Object}
use Rattle.spec_live.specs.Objects.{Entry, dbref_of, is_garbage, object_in, kind_in, mark_in, number_in, object_at}
use Rattle.spec_live.specs.Setting.{with_lines, lines_set}
use Rattle.spec_live.specs.Lives.{Live, Change, change_followed, reading, either, where_so, unchanged, tell}
use Rattle.spec_live.proofs.Keeping.{Keeps, keeps_more, keeps_after}
use Rattle.spec_live.proofs.Readers.{mark_elsewhere}
use Rattle.spec_rights.specs.declared.act.Actor.{Actor}
use Rattle.spec_rights.specs.declared.act.Act.TheVariants.{Edit as EditAct}
use Rattle.spec_rights.specs.Changing.{lines_kept}
use Rattle.spec_rights.proofs.Lookups.{alive, seen_at, number_is}
use Rattle.spec_rights.proofs.Changes.{object_lined}
use Rattle.spec_rights.proofs.Licences.{Quiet, keeps_asked, quiet_unchanged}
use Rattle.spec_rights.proofs.Shown.{shown, quiet_tell, quiet_refused}
use Rattle.spec_commands.specs.declared.edit.EditCommand.{EditCommand}
use Rattle.spec_commands.specs.declared.edit.EditCommand.TheVariants.{Insert, Delete, Show, Compile, Quit}
use Rattle.spec_commands.specs.declared.edit.EditStep.{EditStep}
use Rattle.spec_commands.specs.declared.edit.EditStep.TheVariants.{Stay, Compile as ToCompile, Left}
use Rattle.spec_commands.specs.Programming.{source_of}
use Rattle.spec_commands.specs.Editing.{exiting, illegal, editor_exited, edit_command, lines_most, editing_stepped, with_line, line_inserted, same_lines, source_kept, edit_done, edit_some, edited_at, edited_by_line}
use Rattle.spec_commands.proofs.Edited.{world_of}
use Rattle.spec_commands.proofs.Programmed.{quiet_lines_shown}

-- a program has another source
abbrev pub Rewritten : Dbref → Live → Live → Type 0
Rewritten d w v = source_of d v ≡ source_of d w → ⊥

-- of each object is to be told what was, or its source changed
pub record Rewrites (w v : Live) : Type 0 where
  pub marks : (n : ℕ) → (mark_in v.objects n ≡ mark_in w.objects n) ⊎ Rewritten (dbref_of n) w v

abbrev Editing : (Live → Live × EditState × EditStep) → Type 0
Editing f = Keeps (λ w y. Rewrites w (world_of y)) f

rewrites_quiet : (f : Change) → Quiet f → Keeps Rewrites f
rewrites_quiet f q = keeps_more f (λ w v s. record { marks = λ n. inl (ap (λ os. mark_in os n) s.objects) }) q

-- behind it some text is shown
rewrites_told : (f g : Change) → Keeps Rewrites f → Quiet g → Keeps Rewrites (change_followed f g)
rewrites_told f g p q = keeps_after f g (λ w v u r s. record {
  marks = λ n.
      let P : List Entry → Type 0 = λ os. (mark_in os n ≡ mark_in w.objects n) ⊎ (option_map_or (λ o. o.lines) (object_at (dbref_of n) os) [] ≡ source_of (dbref_of n) w → ⊥) in
      subst P (sym s.objects) (r.marks n);
}) p q

-- The same lines are told to be the same.

lines_same : (xs : List (List ℕ)) → same_lines xs xs ≡ true
lines_same [] = refl
lines_same (x ∷ xs) = rw ((bytes_eq-Decides x x).1 refl) (lines_same xs)

lines_other : (xs ys : List (List ℕ)) → same_lines xs ys ≡ false → ys ≡ xs → ⊥
lines_other xs ys e s = let P : List (List ℕ) → Type 0 = λ zs. same_lines xs zs ≡ false in let f : same_lines xs xs ≡ false = subst P s e in absurd (absurd_bool (sym (lines_same xs) ∙ f))
  where
    absurd_bool : true ≡ false → ⊥
    absurd_bool e = cc

-- The source that is kept.

number_by : (es : List Entry) (m : ℕ) (q : Option Object) → object_in es m ≡ q → number_in es (dbref_of m) ≡ cond (is_garbage (option_map_or (λ (o : Object). o.kind) q Garbage)) None (Some m)
unfolding number_in kind_in
number_by es m q f = ap (λ (p : Option Object). cond (is_garbage (option_map_or (λ (o : Object). o.kind) p Garbage)) None (Some m)) f

lined_at : (m : ℕ) (lines : List (List ℕ)) (es : List Entry) (d : Dbref) → number_in es d ≡ Some m → option_map_or (λ (o : Object). o.lines) (object_at (dbref_of m) (lines_set lines m es)) [] ≡ lines
lined_at m lines es d e =
    let P : Dbref → Type 0 = λ x. number_in es x ≡ Some m in
    let known : number_in es (dbref_of m) ≡ Some m = subst P (number_is es d m e) e in
    ap (λ q. option_map_or (λ (o : Object). o.lines) q []) (seen_at (lines_set lines m es) m ∙ ap (λ q. option_and_then alive q) (object_lined m lines es)) ∙ there (object_in es m) refl known
  where
    there : (q : Option Object) → object_in es m ≡ q → number_in es (dbref_of m) ≡ Some m → option_map_or (λ (o : Object). o.lines) (option_and_then alive (option_map (λ (o : Object). record o { lines = lines }) q)) [] ≡ lines
    there None f known = absurd (none (sym (number_by es m None f) ∙ known))
      where
        none : ◌≡◌ {A = Option ℕ} None (Some m) → ⊥
        none e = cc
    there (Some o) f known = at (is_garbage o.kind) (sym (number_by es m (Some o) f) ∙ known)
      where
        at : (b : Bool) → ◌≡◌ {A = Option ℕ} (cond b None (Some m)) (Some m) → option_map_or (λ (p : Object). p.lines) (cond b None (Some (record o { lines = lines }))) [] ≡ lines
        at true k = absurd (cc)
        at false k = refl

rewrites_kept : (program : Dbref) (lines : List (List ℕ)) → Keeps Rewrites (source_kept program lines)
unfolding source_kept where_so reading either lines_kept unchanged
rewrites_kept program lines = record { law = λ w. at w (same_lines (source_of program w) lines) refl }
  where
    kept : (w : Live) → same_lines (source_of program w) lines ≡ false → (n : ℕ) (q : Option ℕ) → number_in w.objects program ≡ q →
        (mark_in (option_map_or (λ m. lines_set lines m w.objects) q w.objects) n ≡ mark_in w.objects n)
        ⊎ (option_map_or (λ (o : Object). o.lines) (object_at (dbref_of n) (option_map_or (λ m. lines_set lines m w.objects) q w.objects)) [] ≡ source_of (dbref_of n) w → ⊥)
    kept w other n None e = inl refl
    kept w other n (Some m) e = elim (cases_eq n m) [
      | inl k ↦
          inr (λ s.
          let name : dbref_of n ≡ program = ap dbref_of k ∙ sym (number_is w.objects program m e) in
          let lined : option_map_or (λ (o : Object). o.lines) (object_at (dbref_of n) (lines_set lines m w.objects)) [] ≡ lines = ap (λ i. option_map_or (λ (o : Object). o.lines) (object_at (dbref_of i) (lines_set lines m w.objects)) []) k ∙ lined_at m lines w.objects program e in
          lines_other (source_of program w) lines other (sym lined ∙ s ∙ ap (λ d. source_of d w) name))
      | inr k ↦ inl (mark_elsewhere m n (with_lines lines) w.objects k)
    ]

    at : (w : Live) (b : Bool) → same_lines (source_of program w) lines ≡ b → Rewrites w (cond b w (lines_kept program lines w))
    at w true e = record { marks = λ n. inl refl }
    at w false e = record { marks = λ n. kept w e n (number_in w.objects program) refl }

-- A line of the editor.

edits_stepped : (step : EditStep) (s : EditState) (f : Change) → Keeps Rewrites f → Editing (editing_stepped step s f)
unfolding editing_stepped
edits_stepped step s f p = record { law = λ w. p.law w }

edits_quiet : (step : EditStep) (s : EditState) (f : Change) → Quiet f → Editing (editing_stepped step s f)
edits_quiet step s f q = edits_stepped step s f (rewrites_quiet f q)

edits_done : (a : Actor) (d : ℕ) (s : EditState) (command : EditCommand) → Editing (edit_done d a s command)
unfolding edit_done
edits_done a d s (Insert at) = edits_quiet _ _ _ (search shown)
edits_done a d s (Delete from to) = edits_quiet _ _ _ (search shown)
edits_done a d s (Show from to) = edits_quiet _ _ _ (quiet_lines_shown d _)
edits_done a d s Compile = keeps_asked a (EditAct s.program) _ _ (λ denial. edits_quiet Stay s _ (quiet_refused d denial)) (edits_stepped ToCompile s _ (rewrites_kept s.program s.lines))
edits_done a d s Quit =
    keeps_asked a (EditAct s.program) _ _ (λ denial. edits_quiet Left s _ (search shown))
    (edits_stepped Left s _ (rewrites_told _ _ (rewrites_kept s.program s.lines) (quiet_tell d editor_exited)))

edits_inserted : (d : ℕ) (s : EditState) (at : ℕ) (line : List ℕ) → Editing (line_inserted d s at line)
unfolding line_inserted
edits_inserted d s at line = by_cases (bytes_eq line (codes ".")) (nat_lt (length s.lines) lines_most)
  where
    by_cases : (b c : Bool) → Editing (cond b (editing_stepped Stay (record s { inserting = None }) (tell d exiting)) (cond c (editing_stepped Stay (with_line at line s) unchanged) (editing_stepped Stay s (tell d illegal))))
    by_cases true c = edits_quiet _ _ _ (quiet_tell d exiting)
    by_cases false true = edits_quiet _ _ _ quiet_unchanged
    by_cases false false = edits_quiet _ _ _ (quiet_tell d illegal)

pub edited_rewrites : (d : ℕ) (a : Actor) (s : EditState) (line : List ℕ) → Editing (edited_by_line d a s line)
unfolding edited_by_line
edited_rewrites d a s line = by_place s.inserting
  where
    some : (command : Option EditCommand) → Editing (edit_some d a s command)
    some None = edits_quiet Stay s _ (quiet_tell d illegal)
    some (Some command) = edits_done a d s command

    by_place : (inserting : Option ℕ) → Editing (edited_at d a s line inserting)
    by_place (Some n) = edits_inserted d s n line
    by_place None = some (edit_command (length s.lines) line)
