-- How the machine's tests of a stack come out.
use Rattle.std.proofs.Common.{◌≡◌, ℕ, ◌+◌, ◌≤◌, List, [], ◌∷◌, length, Option, Some, None, true, false, refl, sym, ap, ◌∙◌, arith, length-drop, map}
use Rattle.std.specs.Prelude.{is_some}
use Rattle.std.proofs.lemmas.Bool.{le-ltb}
use Rattle.std.proofs.lemmas.List.{length-map}
use Rattle.muf_model.specs.declared.value.Value.{Value}
use Rattle.muf_model.specs.inner.View.{view}
use Rattle.muf_model.specs.declared.fault.MufFault.TheVariants.{BadArgument}
use Rattle.muf_model.specs.Datum.{Datum}
use Rattle.muf_model.specs.declared.code.Code.{Code}
use Rattle.muf_model.specs.Answer.{Answer, gives, stores, calls, refuses, variable_at}
use Rattle.muf_model.specs.inner.Flat.{Flat}
use Rattle.muf_frame.specs.inner.Shown.{locked_by}
use Rattle.muf_frame.specs.inner.Answers.{Became}
use Rattle.muf_frame.specs.inner.Moves.{scope_of, with_variable}
use Rattle.muf_frame.proofs.Data.{lowest_data, left_data}
use Rattle.muf_frame.proofs.Ladders.{used_plain}
use Rattle.muf_run.specs.inner.Machine as machine
use Rattle.muf_run.specs.inner.Machine.{going}

pub ruleset count_steps = (length-drop)

pub ruleset row_steps = (used_plain, lowest_data, left_data, length-map)

none_in : (v : ℕ) (o : Option Datum) (x : Datum) (rest : List Datum) (s : Flat) → is_some o ≡ false → machine.kept_in o v x rest s ≡ machine.fault BadArgument s
none_in v (Some old) x rest s e = cc
none_in v None x rest s e = refl

none_kept : (v : ℕ) (stack : List Datum) (s : Flat) → 1 ≤ length stack → is_some (variable_at v (scope_of 0 s)) ≡ false → machine.kept v stack s ≡ machine.fault BadArgument s
none_kept v [] s h e = absurd (omega (arith, h))
none_kept v (x ∷ rest) s h e = none_in v (variable_at v (scope_of 0 s)) x rest s e

pub keep_none : (v : ℕ) (s : Flat) → locked_by s.marks + 1 ≤ length s.stack → is_some (variable_at v (scope_of 0 s)) ≡ false → machine.keeping v s ≡ machine.fault BadArgument s
keep_none v s h e = rw (le-ltb _ _ h) (none_kept v s.stack s (omega (arith, h)) e)

some_kept : (v : ℕ) (o : Option Datum) (x : Datum) (rest : List Datum) (s : Flat) → is_some o ≡ true → machine.kept_in o v x rest s ≡ going 0 (with_variable v x (record s { stack = rest }))
some_kept v (Some old) x rest s e = refl
some_kept v None x rest s e = cc

pub keep_some : (v : ℕ) (s : Flat) (x : Datum) (rest : List Datum) → s.stack ≡ x ∷ rest → locked_by s.marks + 1 ≤ length s.stack → is_some (variable_at v (scope_of 0 s)) ≡ true → machine.keeping v s ≡ going 0 (with_variable v x (record s { stack = rest }))
keep_some v s x rest t h e =
    rw (le-ltb _ _ h) (ap (λ l. machine.kept v l s) t ∙ some_kept v (variable_at v (scope_of 0 s)) x rest s e)

pub height_alike : (k : ℕ) (xs : List Value) → k ≤ length xs → k ≤ length (map view xs)
height_alike k xs h = rw (length-map xs view) h

pub keep_done : (v : ℕ) (s t u : Flat) (x : Datum) → s ≡ record t { stack = x ∷ t.stack } → locked_by s.marks + 1 ≤ length s.stack → is_some (variable_at v (scope_of 0 s)) ≡ true → u ≡ with_variable v x t → going 0 u ≡ machine.keeping v s
keep_done v s t u x q h e w =
    ap (going 0) w ∙ sym (keep_some v s x t.stack (ap (λ f. f.stack) q) h e ∙ ap (λ f. going 0 (with_variable v x (record f { stack = t.stack }))) q)

-- a frame that became what an answer says
pub became_answered : (code : Code) (a : Answer) (s t : Flat) → Became a s t → going 0 t ≡ machine.answered code a s
became_answered code (gives stack) s t h = ap (going 0) h
became_answered code (stores v x stack) s t h = ap (going 0) h
became_answered code (calls w stack) s t h = absurd h
became_answered code (refuses f) s t h = absurd h
