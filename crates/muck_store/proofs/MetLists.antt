-- Lists of numbers, none twice: joined, read by place, and counted.
use Rattle.std.proofs.Common.{◌≡◌, ◌⊎◌, ℕ, ◌<◌, ◌≤◌, zero, suc, List, [], ◌∷◌, ◌++◌, Some, inl, inr, refl, sym, ap, subst, length, arith, eqb}
use Rattle.std.proofs.lemmas.Bool.{cases_eq, ne_eqb, eq-eqb}
use Rattle.std.proofs.lemmas.Map.Steps.{length-le_from_distinct_below}
use Rattle.std.specs.List.{slice_get}
use Rattle.muck_laws.proofs.Lists.{fewer_by}
use Rattle.spec_live.specs.Chain.{Member, IsApart, without_number}
use Rattle.spec_live.proofs.Chains.{apart_distinct, member_any, member_without}

-- Members of joined lists.

pub member_left : (d : ℕ) (xs ys : List ℕ) → Member d xs → Member d (xs ++ ys)
unfolding Member
member_left d [] ys m = elim m [ ]
member_left d (x ∷ xs) ys m = elim m [ inl e ↦ inl e | inr r ↦ inr (member_left d xs ys r) ]

pub member_right : (d : ℕ) (xs ys : List ℕ) → Member d ys → Member d (xs ++ ys)
unfolding Member
member_right d [] ys m = m
member_right d (x ∷ xs) ys m = inr (member_right d xs ys m)

pub member_split : (d : ℕ) (xs ys : List ℕ) → Member d (xs ++ ys) → Member d xs ⊎ Member d ys
unfolding Member
member_split d [] ys m = inr m
member_split d (x ∷ xs) ys m = elim m [
  | inl e ↦ inl (inl e)
  | inr r ↦ elim (member_split d xs ys r) [ inl q ↦ inl (inr q) | inr q ↦ inr q ]
]

pub apart_append : (xs ys : List ℕ) → IsApart xs → IsApart ys → ((d : ℕ) → Member d xs → Member d ys → ⊥) → IsApart (xs ++ ys)
unfolding IsApart Member
apart_append [] ys a b free = b
apart_append (x ∷ xs) ys a b free = (
  (λ m. elim (member_split x xs ys m) [ inl q ↦ a.0 q | inr q ↦ free x (inl refl) q ]),
  apart_append xs ys a.1 b (λ d m. free d (inr m)),
)

pub none_member : (xs : List ℕ) → ((d : ℕ) → Member d xs → ⊥) → xs ≡ []
unfolding Member
none_member [] h = refl
none_member (x ∷ xs) h = absurd (h x (inl refl))

-- What stands at a place.

pub member_at : (xs : List ℕ) (k x : ℕ) → slice_get xs k ≡ Some x → Member x xs
unfolding Member
member_at [] k x h = absurd (cc)
member_at (y ∷ ys) zero x h = inl (cc)
member_at (y ∷ ys) (suc k) x h = inr (member_at ys k x h)

pub apart_at : (xs : List ℕ) (j k x : ℕ) → IsApart xs → slice_get xs j ≡ Some x → slice_get xs k ≡ Some x → j ≡ k
unfolding IsApart
apart_at [] j k x a g h = absurd (cc)
apart_at (y ∷ ys) zero zero x a g h = refl
apart_at (y ∷ ys) zero (suc k) x a g h =
    let e : x ≡ y = cc in
    let P : ℕ → Type 0 = λ z. Member z ys in
    absurd (a.0 (subst P e (member_at ys k x h)))
apart_at (y ∷ ys) (suc j) zero x a g h =
    let e : x ≡ y = cc in
    let P : ℕ → Type 0 = λ z. Member z ys in
    absurd (a.0 (subst P e (member_at ys j x g)))
apart_at (y ∷ ys) (suc j) (suc k) x a g h = ap suc (apart_at ys j k x a.1 g h)

-- How long lists are.

without_le : (x : ℕ) (ys : List ℕ) → length (without_number x ys) ≤ length ys
unfolding without_number
without_le x [] = omega arith
without_le x (y ∷ ys) = fewer_by (eqb y x) y (without_number x ys) ys (without_le x ys)

without_shorter : (x : ℕ) (ys : List ℕ) → Member x ys → length (without_number x ys) < length ys
unfolding Member without_number
without_shorter x [] m = elim m [ ]
without_shorter x (y ∷ ys) m = elim (cases_eq y x) [
  | inl e ↦ rw (eq-eqb y x e) (omega (arith, without_le x ys))
  | inr e ↦
      let r : Member x ys = elim m [ inl q ↦ absurd (e (sym q)) | inr q ↦ q ] in
      rw (ne_eqb y x e) (omega (arith, without_shorter x ys r))
]

-- what stands in another list, none twice, is no longer
pub apart_short : (xs ys : List ℕ) → IsApart xs → ((d : ℕ) → Member d xs → Member d ys) → length xs ≤ length ys
unfolding IsApart Member
apart_short [] ys a sub = omega arith
apart_short (x ∷ xs) ys a sub =
    let P : ℕ → Type 0 = λ z. Member z xs in
    let rest : length xs ≤ length (without_number x ys) = apart_short xs (without_number x ys) a.1 (λ d m. member_without x d ys (λ e. a.0 (subst P e m)) (sub d (inr m))) in
    omega (arith, without_shorter x ys (sub x (inl refl)))

pub apart_below : (xs : List ℕ) (n : ℕ) → IsApart xs → ((d : ℕ) → Member d xs → d < n) → length xs ≤ n
apart_below xs n a below = length-le_from_distinct_below xs n (apart_distinct xs a) (λ q e. below q (member_any q xs e))
