-- Changes of a list at one place, seen through its readers, and lists with a number left out or put in front.
use Rattle.std.proofs.Common.{◌≡◌, ℕ, List, [], ◌∷◌, Option, Some, None, ◌⊎◌, inl, inr, refl, sym, ◌∙◌, ap, subst, length, Bool, true, false, cond, eqb, ◌||◌}
use Rattle.std.proofs.lemmas.Bool.{cases_eq, ne_eqb, eq-eqb, false≢true}
use Rattle.std.specs.List.{slice_get, slice_set}
use Rattle.std.specs.Option.{option_map, option_and_then}
use Rattle.muck_laws.proofs.Numbers.{same_place}
use Rattle.muck_laws.proofs.Options.{kept_then}
use Rattle.muck_laws.proofs.Places.{get_elsewhere, get_set_same, length_slice_set}
use Rattle.spec_live.specs.Chain.{Member, IsApart, has, without_number, put_at}
use Rattle.spec_live.specs.Objects.{changed_at}
use Rattle.spec_live.proofs.Chains.{without_member}

changed_some : {X : Type 0} (xs : List X) (n : ℕ) (f : X → X) (x : X) → slice_get xs n ≡ Some x → changed_at n f xs ≡ slice_set xs n (f x)
unfolding changed_at
changed_some xs n f x h = rw h refl

changed_none : {X : Type 0} (xs : List X) (n : ℕ) (f : X → X) → slice_get xs n ≡ None → changed_at n f xs ≡ xs
unfolding changed_at
changed_none xs n f h = rw h refl

same_by : {X : Type 0} (xs : List X) (n : ℕ) (f : X → X) (o : Option X) → slice_get xs n ≡ o → slice_get (changed_at n f xs) n ≡ option_map f o
same_by {X} xs n f None h = let P : List X → Type 0 = λ l. slice_get l n ≡ None in subst P (sym (changed_none xs n f h)) h
same_by {X} xs n f (Some x) h = let P : List X → Type 0 = λ l. slice_get l n ≡ Some (f x) in subst P (sym (changed_some xs n f x h)) (get_set_same xs n (f x) x h)

pub get_changed_same : {X : Type 0} (xs : List X) (n : ℕ) (f : X → X) → slice_get (changed_at n f xs) n ≡ option_map f (slice_get xs n)
get_changed_same xs n f = same_by xs n f (slice_get xs n) refl

other_by : {X : Type 0} (xs : List X) (n k : ℕ) (f : X → X) (o : Option X) → slice_get xs n ≡ o → (k ≡ n → ⊥) → slice_get (changed_at n f xs) k ≡ slice_get xs k
other_by {X} xs n k f None h ne = ap (λ (l : List X). slice_get l k) (changed_none xs n f h)
other_by {X} xs n k f (Some x) h ne = ap (λ (l : List X). slice_get l k) (changed_some xs n f x h) ∙ get_elsewhere xs n k (f x) ne

pub get_changed_other : {X : Type 0} (xs : List X) (n k : ℕ) (f : X → X) → (k ≡ n → ⊥) → slice_get (changed_at n f xs) k ≡ slice_get xs k
get_changed_other xs n k f ne = other_by xs n k f (slice_get xs n) refl ne

length_by : {X : Type 0} (xs : List X) (n : ℕ) (f : X → X) (o : Option X) → slice_get xs n ≡ o → length (changed_at n f xs) ≡ length xs
length_by {X} xs n f None h = ap (λ (l : List X). length l) (changed_none xs n f h)
length_by {X} xs n f (Some x) h = ap (λ (l : List X). length l) (changed_some xs n f x h) ∙ length_slice_set xs n (f x)

pub length_changed : {X : Type 0} (xs : List X) (n : ℕ) (f : X → X) → length (changed_at n f xs) ≡ length xs
length_changed xs n f = length_by xs n f (slice_get xs n) refl

pub read_kept : {X Y : Type 0} (g : X → Option Y) (xs : List X) (n k : ℕ) (f : X → X) → ((x : X) → g (f x) ≡ g x) → option_and_then g (slice_get (changed_at n f xs) k) ≡ option_and_then g (slice_get xs k)
read_kept {X} g xs n k f h = elim (cases_eq k n) [
  | inl e ↦ rw e (ap (λ (o : Option X). option_and_then g o) (get_changed_same xs n f) ∙ kept_then g f (slice_get xs n) h)
  | inr e ↦ ap (λ (o : Option X). option_and_then g o) (get_changed_other xs n k f e)
]

-- Lists with a number put in front, or left out.

pub put_same : (w : Bool) (to d : ℕ) (v : Bool) (q : ℕ) (xs : List ℕ) → v ≡ w → q ≡ to → put_at w to d v q xs ≡ d ∷ xs
unfolding put_at
put_same true to d true q xs e h = rw (eq-eqb q to h) refl
put_same false to d false q xs e h = rw (eq-eqb q to h) refl
put_same true to d false q xs e h = absurd (false≢true e)
put_same false to d true q xs e h = absurd (false≢true (sym e))

pub put_other : (w : Bool) (to d : ℕ) (v : Bool) (q : ℕ) (xs : List ℕ) → (v ≡ w → q ≡ to → ⊥) → put_at w to d v q xs ≡ xs
unfolding put_at
put_other true to d true q xs h = rw (ne_eqb q to (h refl)) refl
put_other false to d false q xs h = rw (ne_eqb q to (h refl)) refl
put_other true to d false q xs h = refl
put_other false to d true q xs h = refl

pub has_true : (d : ℕ) (xs : List ℕ) → Member d xs → has d xs ≡ true
unfolding Member has
has_true d [] m = elim m [ ]
has_true d (x ∷ xs) m = elim m [ inl e ↦ rw (eq-eqb d x e) refl | inr r ↦ rw (has_true d xs r) (or_true (eqb d x)) ]
  where
    or_true : (b : Bool) → (b || true) ≡ true
    or_true true = refl
    or_true false = refl

pub has_false : (d : ℕ) (xs : List ℕ) → (Member d xs → ⊥) → has d xs ≡ false
unfolding Member has
has_false d [] h = refl
has_false d (x ∷ xs) h = rw (ne_eqb d x (λ e. h (inl e))) (has_false d xs (λ m. h (inr m)))

pub has_not : (d : ℕ) (xs : List ℕ) → has d xs ≡ false → Member d xs → ⊥
has_not d xs h m = false≢true (sym h ∙ has_true d xs m)

pub apart_without : (d : ℕ) (xs : List ℕ) → IsApart xs → IsApart (without_number d xs)
unfolding IsApart without_number
apart_without d [] h = h
apart_without d (x ∷ xs) h = by_cases (eqb x d) (apart_without d xs h.1)
  where
    by_cases : (b : Bool) → IsApart (without_number d xs) → IsApart (cond b (without_number d xs) (x ∷ without_number d xs))
    by_cases true rest = rest
    by_cases false rest = ((λ m. h.0 (without_member d x xs m)), rest)

pub member_put : (w : Bool) (to d : ℕ) (v : Bool) (p x : ℕ) (xs : List ℕ) → Member x xs → Member x (put_at w to d v p xs)
unfolding Member
member_put w to d v p x xs m = elim (same_place v w p to) [
  | inl e ↦ rw (put_same w to d v p xs e.0 e.1) (let k : Member x (d ∷ xs) = inr m in k)
  | inr e ↦ rw (put_other w to d v p xs e) m
]

pub put_member : (w : Bool) (to d : ℕ) (v : Bool) (p x : ℕ) (xs : List ℕ) → Member x (put_at w to d v p xs) → ((x ≡ d) × (v ≡ w) × (p ≡ to)) ⊎ Member x xs
unfolding Member
put_member w to d v p x xs m = elim (same_place v w p to) [
  | inl e ↦ let k : Member x (d ∷ xs) = rw (put_same w to d v p xs e.0 e.1) at m in elim k [ inl q ↦ inl (q, e.0, e.1) | inr q ↦ inr q ]
  | inr e ↦ inr (rw (put_other w to d v p xs e) at m)
]

pub front_member : (w : Bool) (to d : ℕ) (v : Bool) (p : ℕ) (xs : List ℕ) → v ≡ w → p ≡ to → Member d (put_at w to d v p xs)
unfolding Member
front_member w to d v p xs a b = rw (put_same w to d v p xs a b) (let k : Member d (d ∷ xs) = inl refl in k)

pub apart_put : (w : Bool) (to d : ℕ) (v : Bool) (p : ℕ) (xs : List ℕ) → (Member d xs → ⊥) → IsApart xs → IsApart (put_at w to d v p xs)
unfolding IsApart
apart_put w to d v p xs free h = elim (same_place v w p to) [
  | inl e ↦ rw (put_same w to d v p xs e.0 e.1) (let k : IsApart (d ∷ xs) = (free, h) in k)
  | inr e ↦ rw (put_other w to d v p xs e) h
]
