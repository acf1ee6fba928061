-- A walk along a chain.
use Rattle.std.proofs.Common.{◌≡◌, ℕ, ◌<◌, ◌≤◌, zero, suc, Bool, true, false, List, [], ◌∷◌, length, refl, sym, ◌∙◌, ap, subst, arith}
use Rattle.std.proofs.lemmas.Bool.{false≢true}
use Rattle.std.specs.Prelude.{if◌then◌else◌}
use Rattle.std.specs.List.{list_any}
use Rattle.muck_model.specs.declared.dbref.Dbref.{Dbref}
use Rattle.muck_lock.specs.inner.Chain.{IsChain, same, nothing}

-- what is met in at most so many steps
unfoldable pub walk : (Dbref → Dbref) → ℕ → Dbref → List Dbref
walk next zero at = []
walk next (suc k) at = if same at nothing then [] else at ∷ walk next k (next at)

length-walk-le : (next : Dbref → Dbref) (k : ℕ) (at : Dbref) → length (walk next k at) ≤ k
unfolding walk
length-walk-le next zero at = omega arith
length-walk-le next (suc k) at =
    elim (same at nothing) as (λ b. length (if b then [] else at ∷ walk next k (next at)) ≤ suc k) [
      | true ↦ omega arith
      | false ↦ omega (arith, length-walk-le next k (next at))
    ]

walk_is : (next : Dbref → Dbref) (k : ℕ) (at : Dbref) (rest : List Dbref) → IsChain next at rest → length rest ≤ k → walk next k at ≡ rest
unfolding walk IsChain
walk_is next zero at [] h short = refl
walk_is next zero at (d ∷ more) h short = absurd (omega arith)
walk_is next (suc k) at [] h short = rw h
walk_is next (suc k) at (d ∷ more) h short =
    let P : Dbref → Type 0 = λ z. IsChain next (next z) more in
    let rest : walk next k (next at) ≡ more = walk_is next k (next at) more (subst P (sym h.0) h.2) (omega arith) in
    rw (h.1, rest, h.0)

-- a chain that has not ended
split : (next : Dbref → Dbref) (at : Dbref) (rest : List Dbref) → IsChain next at rest → same at nothing ≡ false → (more : List Dbref) × (rest ≡ at ∷ more) × IsChain next (next at) more
unfolding IsChain
split next at [] h goes = absurd (false≢true (sym goes ∙ h))
split next at (d ∷ more) h goes =
    let P : Dbref → Type 0 = λ z. IsChain next (next z) more in
    (more, ap (λ z. z ∷ more) (sym h.0), subst P (sym h.0) h.2)

ended : (next : Dbref → Dbref) (at : Dbref) (rest : List Dbref) → IsChain next at rest → same at nothing ≡ true → rest ≡ []
unfolding IsChain
ended next at [] h ends = refl
ended next at (d ∷ more) h ends = absurd (false≢true (sym h.1 ∙ ends))

-- the rest of the walk is a chain, and passes a test where the whole list does
pub record Walking (next : Dbref → Dbref) (test : Dbref → Bool) (all : List Dbref) (at : Dbref) : Type 0 where
  pub chain : IsChain next at (walk next (length all) at)
  pub ahead : list_any test (walk next (length all) at) ≡ list_any test all

pub begins : (next : Dbref → Dbref) (test : Dbref → Bool) (all : List Dbref) (at : Dbref) → IsChain next at all → Walking next test all at
begins next test all at h =
    let same_list : walk next (length all) at ≡ all = walk_is next (length all) at all h (omega arith) in
    record { chain = subst (λ l. IsChain next at l) (sym same_list) h; ahead = ap (λ l. list_any test l) same_list }

pub at_end : (next : Dbref → Dbref) (test : Dbref → Bool) (all : List Dbref) (at : Dbref) → Walking next test all at → same at nothing ≡ true → list_any test all ≡ false
at_end next test all at w ends =
    sym w.ahead ∙ ap (λ l. list_any test l) (ended next at (walk next (length all) at) w.chain ends)

rest_is : (next : Dbref → Dbref) (test : Dbref → Bool) (all : List Dbref) (at : Dbref) → Walking next test all at → same at nothing ≡ false
    → (walk next (length all) at ≡ at ∷ walk next (length all) (next at)) × IsChain next (next at) (walk next (length all) (next at))
rest_is next test all at w goes =
    let s : (more : List Dbref) × (walk next (length all) at ≡ at ∷ more) × IsChain next (next at) more = split next at (walk next (length all) at) w.chain goes in
    let bound : length (walk next (length all) at) ≤ length all = length-walk-le next (length all) at in
    let size : length (walk next (length all) at) ≡ suc (length s.0) = ap length s.1 in
    let e : walk next (length all) (next at) ≡ s.0 = walk_is next (length all) (next at) s.0 s.2 (omega (arith, bound, size)) in
    (s.1 ∙ ap (λ l. at ∷ l) (sym e), subst (λ l. IsChain next (next at) l) (sym e) s.2)

pub found : (next : Dbref → Dbref) (test : Dbref → Bool) (all : List Dbref) (at : Dbref) → Walking next test all at → same at nothing ≡ false → test at ≡ true → list_any test all ≡ true
found next test all at w goes passes =
    let e = rest_is next test all at w goes in
    sym w.ahead ∙ ap (λ l. list_any test l) e.0 ∙ rw passes refl

pub goes_on : (next : Dbref → Dbref) (test : Dbref → Bool) (all : List Dbref) (at : Dbref) → Walking next test all at → same at nothing ≡ false → test at ≡ false → Walking next test all (next at)
goes_on next test all at w goes fails =
    let e = rest_is next test all at w goes in
    let here : list_any test (at ∷ walk next (length all) (next at)) ≡ list_any test (walk next (length all) (next at)) = rw fails refl in
    record { chain = e.1; ahead = sym here ∙ ap (λ l. list_any test l) (sym e.0) ∙ w.ahead }

pub walk-smaller : (next : Dbref → Dbref) (test : Dbref → Bool) (all : List Dbref) (at : Dbref) → Walking next test all at → same at nothing ≡ false → length (walk next (length all) (next at)) < length (walk next (length all) at)
walk-smaller next test all at w goes = let e = rest_is next test all at w goes in omega (arith, ap length e.0)
