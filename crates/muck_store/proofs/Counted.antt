-- No more numbers than things that pass a test, where each is the number of one that passes.
use Rattle.std.proofs.Common.{◌≡◌, ℕ, ◌+◌, ◌≤◌, zero, suc, List, [], ◌∷◌, Some, refl, ◌∙◌, ap, length, arith, Bool, true, false, cond, eqb}
use Rattle.std.proofs.lemmas.Bool.{eq-eqb, or_right}
use Rattle.std.proofs.lemmas.Cmp.{nat_eq_equiv}
use Rattle.std.proofs.lemmas.Option.{same_Some, none-some}
use Rattle.std.proofs.lemmas.List.Sums.{length-filter}
use Rattle.std.proofs.lemmas.Map.Made.{length-le_from_is_member}
use Rattle.std.specs.List.{count_by, filter, slice_get, list_any}
use Rattle.spec_live.specs.Chain.{Member, IsApart}
use Rattle.spec_live.proofs.Chains.{member_any, apart_distinct}

-- the numbers, from k on, of those that pass
abbrev passing : {X : Type 0} → (X → Bool) → ℕ → List X → List ℕ
passing test k [] = []
passing test k (x ∷ xs) = cond (test x) (k ∷ passing test (suc k) xs) (passing test (suc k) xs)

length_passing : {X : Type 0} (test : X → Bool) (k : ℕ) (xs : List X) → length (passing test k xs) ≡ length (filter test xs)
length_passing test k [] = refl
length_passing test k (x ∷ xs) = by_cases (test x) (length_passing test (suc k) xs)
  where
    by_cases : (b : Bool) → length (passing test (suc k) xs) ≡ length (filter test xs)
        → length (cond b (k ∷ passing test (suc k) xs) (passing test (suc k) xs)) ≡ length (cond b (x ∷ filter test xs) (filter test xs))
    by_cases true h = ap suc h
    by_cases false h = h

member_passing : {X : Type 0} (test : X → Bool) (k n j : ℕ) (xs : List X) (x : X) → n ≡ k + j → slice_get xs j ≡ Some x → test x ≡ true → list_any (eqb n) (passing test k xs) ≡ true
member_passing test k n j [] x e h t = absurd (none-some x h)
member_passing test k n zero (y ∷ ys) x e h t =
    let here : test y ≡ true = ap test (same_Some y x h) ∙ t in
    let same : eqb n k ≡ true = eq-eqb n k (omega arith) in
    rw here (rw same refl)
member_passing test k n (suc j) (y ∷ ys) x e h t = by_cases (test y) (member_passing test (suc k) n j ys x (omega arith) h t)
  where
    by_cases : (b : Bool) → list_any (eqb n) (passing test (suc k) ys) ≡ true → list_any (eqb n) (cond b (k ∷ passing test (suc k) ys) (passing test (suc k) ys)) ≡ true
    by_cases true r = or_right (eqb n k) (list_any (eqb n) (passing test (suc k) ys)) r
    by_cases false r = r

-- the thing of that number passes
pub record Passes {X : Type 0} (test : X → Bool) (xs : List X) (d : ℕ) : Type 0 where
  pub thing : X
  pub is : slice_get xs d ≡ Some thing
  pub holds : test thing ≡ true

pub counted : {X : Type 0} (test : X → Bool) (xs : List X) (ns : List ℕ) → IsApart ns → ((d : ℕ) → Member d ns → Passes test xs d) → length ns ≤ count_by test xs
counted test xs ns apart each =
    let within : length ns ≤ length (passing test 0 xs) = length-le_from_is_member nat_eq_equiv ns (passing test 0 xs) (apart_distinct ns apart)
    (λ q h. let e : Passes test xs q = each q (member_any q ns h) in member_passing test 0 q q xs e.thing (omega arith) e.is e.holds) in
    omega (arith, within, length_passing test 0 xs, length-filter test xs)
