-- Runs of units.
use Rattle.std.proofs.Common.{◌≡◌, ℕ, zero, suc, ◌+◌, ◌-◌, ◌<◌, ◌≤◌, List, ◌∷◌, refl, sym, ap, subst, ◌∙◌, arith}
use Rattle.muf_model.specs.declared.code.Code.{Code}
use Rattle.muf_model.specs.Source.{Source}
use Rattle.muf_model.specs.Unit.{Outcome, goes, ended, faulted, asks, stuck, unit, units, and_then}
use Rattle.muf_model.specs.inner.Nested.{Nested, StaysNested}
use Rattle.muf_model.specs.inner.Flat.{Flat, decode}
use Rattle.muf_model.specs.inner.Fits.{FitsState, Fits}
use Rattle.muf_model.proofs.Decoded.{decoded, fits}
use Rattle.muf_model.proofs.Nesting.{unit_nested}
use Rattle.muf_run.specs.declared.ran.Ran.{Ran}
use Rattle.muf_run.specs.declared.ran.Ran.TheVariants.{Going, Ended, Faulted, Shared, Stuck}
use Rattle.muf_run.specs.inner.Machine.{next_of, going}
use Rattle.muf_run.specs.inner.Alike.{EndsAlike}
use Rattle.muf_run.specs.inner.Ends.{Leads}
use Rattle.muf_run.specs.inner.Runs.{RunsAlike, count, taken, local_of, last_of}

-- a unit that goes on leaves a nested state for which the frame stands
pub going_on : (codes : List Code) (f : Flat) (o : Outcome) → StaysNested o → EndsAlike codes (going 0 f) o → (t : Source) × FitsState codes f t × Nested t × (o ≡ goes 0 t)
going_on codes f (goes zero s) n h = (s, h.1, n, refl)
going_on codes f (goes (suc j) s) n h = let e : 0 ≡ suc j = h.0 in cc
going_on codes f ended n h = absurd h
going_on codes f (faulted g) n h = absurd h
going_on codes f (asks p s) n h = absurd h
going_on codes f stuck n h = absurd h

-- a run that is over stays over, where its last unit wasn't stuck
pub run_over : (codes : List Code) (ran : Ran) (f : Flat) (o : Outcome) (more : Source → Outcome) → (ran ≡ Going 0 → ⊥) → StaysNested o → EndsAlike codes (next_of ran f) o → RunsAlike codes (local_of ran) f (and_then o more)
run_over codes (Going zero) f o more over n h = absurd (over refl)
run_over codes (Going (suc k)) f (goes zero s) more over n h = let e : suc k ≡ 0 = h.0 in absurd (omega (arith, e))
run_over codes (Going (suc k)) f (goes (suc j) s) more over n h = (h.0, fits h.1 n, decoded h.1)
run_over codes (Going (suc k)) f ended more over n h = absurd h
run_over codes (Going (suc k)) f (faulted g) more over n h = absurd h
run_over codes (Going (suc k)) f (asks p s) more over n h = absurd h
run_over codes Ended f (goes j s) more over n h = absurd h
run_over codes Ended f ended more over n h = tt
run_over codes Ended f (faulted g) more over n h = absurd h
run_over codes Ended f (asks p s) more over n h = absurd h
run_over codes (Faulted g) f (goes j s) more over n h = absurd h
run_over codes (Faulted g) f ended more over n h = absurd h
run_over codes (Faulted g) f (faulted e) more over n h = h
run_over codes (Faulted g) f (asks p s) more over n h = absurd h
run_over codes (Shared q) f (goes j s) more over n h = absurd h
run_over codes (Shared q) f ended more over n h = absurd h
run_over codes (Shared q) f (faulted g) more over n h = absurd h
run_over codes (Shared q) f (asks p s) more over n h = (h.0, fits h.1 n, decoded h.1)
run_over codes Stuck f (goes j s) more over n h = absurd h
run_over codes Stuck f ended more over n h = absurd h
run_over codes Stuck f (faulted g) more over n h = absurd h
run_over codes Stuck f (asks p s) more over n h = absurd h
run_over codes ran f stuck more over n h = absurd n

-- and its last unit is counted
pub count_over : (codes : List Code) (ran : Ran) (f : Flat) (o : Outcome) (more : Source → ℕ) → (ran ≡ Going 0 → ⊥) → EndsAlike codes (next_of ran f) o → count o more ≡ last_of ran
count_over codes (Going zero) f o more over h = absurd (over refl)
count_over codes (Going (suc k)) f (goes zero s) more over h = let e : suc k ≡ 0 = h.0 in absurd (omega (arith, e))
count_over codes (Going (suc k)) f (goes (suc j) s) more over h = refl
count_over codes (Going (suc k)) f ended more over h = absurd h
count_over codes (Going (suc k)) f (faulted g) more over h = absurd h
count_over codes (Going (suc k)) f (asks p s) more over h = absurd h
count_over codes (Going (suc k)) f stuck more over h = absurd h
count_over codes Ended f (goes j s) more over h = absurd h
count_over codes Ended f ended more over h = refl
count_over codes Ended f (faulted g) more over h = absurd h
count_over codes Ended f (asks p s) more over h = absurd h
count_over codes Ended f stuck more over h = absurd h
count_over codes (Faulted g) f (goes j s) more over h = absurd h
count_over codes (Faulted g) f ended more over h = absurd h
count_over codes (Faulted g) f (faulted e) more over h = refl
count_over codes (Faulted g) f (asks p s) more over h = absurd h
count_over codes (Faulted g) f stuck more over h = absurd h
count_over codes (Shared q) f (goes j s) more over h = absurd h
count_over codes (Shared q) f ended more over h = absurd h
count_over codes (Shared q) f (faulted g) more over h = absurd h
count_over codes (Shared q) f (asks p s) more over h = refl
count_over codes (Shared q) f stuck more over h = absurd h
count_over codes Stuck f (goes j s) more over h = absurd h
count_over codes Stuck f ended more over h = absurd h
count_over codes Stuck f (faulted e) more over h = absurd h
count_over codes Stuck f (asks p s) more over h = absurd h
count_over codes Stuck f stuck more over h = refl

-- units that go on lead to a nested state for which the frame stands, and count
pub leads_on : (n : ℕ) (code : Code) (codes : List Code) (f g : Flat) (s : Source) → Leads n code f g → FitsState (code ∷ codes) f s → Nested s → (t : Source) × FitsState (code ∷ codes) g t × Nested t × ((m : ℕ) → n ≤ m → units m s ≡ units (m - n) t) × ((m : ℕ) → n ≤ m → taken m s ≡ n + taken (m - n) t)
leads_on zero code codes f g s l h nested = (s, subst (λ f. FitsState (code ∷ codes) f s) (sym l) h, nested, λ m k. (let e : m - 0 ≡ m = omega arith in ap (λ j. units j s) (sym e)), λ m k. (let e : m - 0 ≡ m = omega arith in let z : taken (m - 0) s ≡ 0 + taken (m - 0) s = omega arith in ap (λ j. taken j s) (sym e) ∙ z))
leads_on (suc n) code codes f g s l h nested =
    let u = going_on (code ∷ codes) l.0 (unit s) (unit_nested s nested) (l.1 codes s h) in
    let r = leads_on n code codes l.0 g u.0 l.2 u.1 u.2 in (
      r.0,
      r.1,
      r.2,
      λ m k. (let one : m ≡ suc (m - 1) = omega (arith, k) in
          let less : m - 1 - n ≡ m - suc n = omega (arith, k) in
          let step : units m s ≡ units (m - 1) u.0 = ap (λ j. units j s) one ∙ ap (λ o. and_then o (units (m - 1))) u.3 in
          step ∙ r.3 (m - 1) (omega (arith, k)) ∙ ap (λ j. units j r.0) less),
      λ m k. (let one : m ≡ suc (m - 1) = omega (arith, k) in
          let less : m - 1 - n ≡ m - suc n = omega (arith, k) in
          let step : taken m s ≡ suc (taken (m - 1) u.0) = ap (λ j. taken j s) one ∙ ap (λ o. count o (taken (m - 1))) u.3 in
          let more : suc (n + taken (m - 1 - n) r.0) ≡ suc n + taken (m - 1 - n) r.0 = omega arith in
          step ∙ ap suc (r.4 (m - 1) (omega (arith, k))) ∙ more ∙ ap (λ j. suc n + taken j r.0) less),
    )

pub going_far : (most k n : ℕ) (code : Code) (codes : List Code) (f g : Flat) (s t : Source) → n ≤ most - k → Leads n code f g → FitsState (code ∷ codes) f t → Nested t → units most s ≡ units (most - k) t → taken most s ≡ k + taken (most - k) t → (u : Source) × FitsState (code ∷ codes) g u × Nested u × (units most s ≡ units (most - (k + n)) u) × (taken most s ≡ k + n + taken (most - (k + n)) u)
going_far most k n code codes f g s t within l h nested e d =
    let r = leads_on n code codes f g t l h nested in
    let less : most - k - n ≡ most - (k + n) = omega arith in
    let sum : k + (n + taken (most - k - n) r.0) ≡ k + n + taken (most - (k + n)) r.0 = ap (λ j. k + (n + taken j r.0)) less ∙ omega arith in
    (r.0, r.1, r.2, e ∙ r.3 (most - k) within ∙ ap (λ j. units j r.0) less, d ∙ ap (λ j. k + j) (r.4 (most - k) within) ∙ sum)

-- the unit with which a run is over
pub units_over : (n k : ℕ) (codes : List Code) (ran : Ran) (f : Flat) (t : Source) → k < n → (ran ≡ Going 0 → ⊥) → Nested t → EndsAlike codes (next_of ran f) (unit t) → RunsAlike codes (local_of ran) f (units (n - k) t)
units_over n k codes ran f t l over nested h =
    let m : n - k ≡ suc (n - (k + 1)) = omega (arith, l) in
    rw m (run_over codes ran f (unit t) (units (n - (k + 1))) over (unit_nested t nested) h)

pub taken_over : (n k : ℕ) (codes : List Code) (ran : Ran) (f : Flat) (t : Source) → k < n → (ran ≡ Going 0 → ⊥) → EndsAlike codes (next_of ran f) (unit t) → k + last_of ran ≡ k + taken (n - k) t
taken_over n k codes ran f t l over h =
    let m : n - k ≡ suc (n - (k + 1)) = omega (arith, l) in
    rw m (ap (λ j. k + j) (sym (count_over codes ran f (unit t) (taken (n - (k + 1))) over h)))

-- a run that took all its units
pub spent : (codes : List Code) (f : Flat) (s t : Source) (n k : ℕ) → FitsState codes f t → Nested t → n ≤ k → units n s ≡ units (n - k) t → Fits codes f × (decode codes f ≡ t) × (units n s ≡ goes 0 t)
spent codes f s t n k h nested l e =
    let m : n - k ≡ 0 = omega (arith, l) in
    (fits h nested, decoded h, e ∙ ap (λ j. units j t) m)
