-- The places of a text in another.
use Rattle.std.proofs.Common.{◌≡◌, ℕ, zero, suc, ◌+◌, ◌<◌, ◌≤◌, true, false, List, Option, Some, None, length, refl, sym, ap, subst, ◌∙◌, arith, ⊎_elim}
use Rattle.std.specs.Prelude.{IfSome}
use Rattle.std.proofs.lemmas.Bool.{cases_Bool, cond-true, cond-false, false≢true, cases_eq}
use Rattle.memchr.specs.Find.{OccursAt, IsFirst, IsLast, FindsNeedle, FindsLastNeedle}
use Rattle.memchr.proofs.lemmas.MatchLemmas.{occurs_at-true, OccursAt-true}
use Rattle.muf_model.specs.Texts.{text_stands_at, first_from, last_below, first_place, last_place}

-- a place where t stands is none where it doesn't
elsewhere : (t s : List ℕ) (j k : ℕ) → OccursAt s t j → text_stands_at t s k ≡ false → j ≡ k → ⊥
elsewhere t s j k occurs e same = false≢true (sym e ∙ ap (text_stands_at t s) (sym same) ∙ occurs_at-true s t j occurs)

first_is : (t s : List ℕ) (n k : ℕ) (r : Option ℕ) → IsFirst (OccursAt s t) k (k + n) r → r ≡ first_from t s k n
first_is t s zero k None h = refl
first_is t s zero k (Some j) h = let low = h.0.low in let high = h.0.high in absurd (omega arith)
first_is t s (suc n) k None h =
    ⊎_elim
    (λ e. absurd (h k (omega arith) (omega arith) (OccursAt-true s t k e)))
    (λ e. first_is t s n (k + 1) None (λ q a b. h q (omega arith) (omega arith)) ∙ sym (cond-false _ _ _ e))
    (cases_Bool (text_stands_at t s k))
first_is t s (suc n) k (Some j) h =
    let low = h.0.low in
    let high = h.0.high in
    ⊎_elim
    (λ e.
    let same : j ≡ k = ⊎_elim (λ q. q) (λ other. absurd (h.0.before k (omega arith) (omega arith) (OccursAt-true s t k e))) (cases_eq j k) in
    ap Some same ∙ sym (cond-true _ _ _ e))
    (λ e.
    let other : j ≡ k → ⊥ = elsewhere t s j k h.1 e in
    first_is t s n (k + 1) (Some j) (record { low = omega arith; high = omega arith; before = λ q a b. h.0.before q (omega arith) b }, h.1) ∙ sym (cond-false _ _ _ e))
    (cases_Bool (text_stands_at t s k))

last_is : (t s : List ℕ) (n : ℕ) (r : Option ℕ) → IsLast (OccursAt s t) 0 n r → r ≡ last_below t s n
last_is t s zero None h = refl
last_is t s zero (Some j) h = let high = h.0.high in absurd (omega arith)
last_is t s (suc n) None h =
    ⊎_elim
    (λ e. absurd (h n (omega arith) (omega arith) (OccursAt-true s t n e)))
    (λ e. last_is t s n None (λ q a b. h q a (omega arith)) ∙ sym (cond-false _ _ _ e))
    (cases_Bool (text_stands_at t s n))
last_is t s (suc n) (Some j) h =
    let high = h.0.high in
    ⊎_elim
    (λ e.
    let same : j ≡ n = ⊎_elim (λ q. q) (λ other. absurd (h.0.after n (omega arith) (omega arith) (OccursAt-true s t n e))) (cases_eq j n) in
    ap Some same ∙ sym (cond-true _ _ _ e))
    (λ e.
    let other : j ≡ n → ⊥ = elsewhere t s j n h.1 e in
    last_is t s n (Some j) (record { low = omega arith; high = omega arith; after = λ q a b. h.0.after q a (omega arith) }, h.1) ∙ sym (cond-false _ _ _ e))
    (cases_Bool (text_stands_at t s n))

pub found_first : (t s : List ℕ) (r : Option ℕ) → FindsNeedle s t 0 r → r ≡ first_place t s
unfolding first_place
found_first t s r h = let e : length s + 1 ≡ 0 + (length s + 1) = omega arith in first_is t s (length s + 1) 0 r (subst (λ m. IsFirst (OccursAt s t) 0 m r) e h)

pub found_last : (t s : List ℕ) (r : Option ℕ) → FindsLastNeedle s t r → r ≡ last_place t s
unfolding last_place
found_last t s r h = last_is t s (length s + 1) r h

pub within_first : (t s : List ℕ) (r : Option ℕ) → FindsNeedle s t 0 r → IfSome r (λ k. k + length t ≤ length s)
within_first t s None h = tt
within_first t s (Some k) h = h.1.fits

pub within_last : (t s : List ℕ) (r : Option ℕ) → FindsLastNeedle s t r → IfSome r (λ k. k + length t ≤ length s)
within_last t s None h = tt
within_last t s (Some k) h = h.1.fits

pub ruleset place_steps = (found_first, found_last, within_first, within_last)
