-- Lists of which each item, or the front, is mapped or joined into one.
use Rattle.std.proofs.Common.{List, None, Some, [], ap, arith, drop, inl, inr, length, map, refl, suc, sym, take, take_all, zero, ℕ, ◌++◌, ◌∙◌, ◌∷◌, ◌≡◌, ◌≤◌}
use Rattle.std.proofs.lemmas.Bool.{cases_lt}
use Rattle.std.proofs.lemmas.List.{drop_all, length-map, take-map}
use Rattle.std.proofs.lemmas.List.Sums.{fold_push}
use Rattle.std.specs.List.{reduce}
use Rattle.std.specs.Option.{option_map_or}

-- behind the last one there is none
pub none_mapped : {A B : Type 0} (f : A → B) (xs : List A) (i : ℕ) → length xs ≤ i → drop i (map f xs) ≡ []
none_mapped f xs i le = drop_all i (map f xs) (omega (arith, le, length-map xs f))

-- those before a place
pub taken : {A B : Type 0} (f : A → B) (xs : List A) (m n : ℕ) → (m ≤ length xs → n ≡ m) → (length xs ≤ m → n ≡ length xs) → map f (take n xs) ≡ take m (map f xs)
taken f xs m n h k =
    elim (cases_lt m (length xs)) [
      | inl less ↦ ap (λ i. map f (take i xs)) (h (omega arith)) ∙ sym (take-map f m xs)
      | inr past ↦ ap (λ i. map f (take i xs)) (k past) ∙ ap (map f) (take_all (length xs) xs (omega arith)) ∙ sym (take_all m (map f xs) (omega (arith, past, length-map xs f)))
    ]

pub reduce_push : {X : Type 0} (f : X → X → X) (xs : List X) (x : X) → reduce f (xs ++ x ∷ []) ≡ Some (option_map_or (λ y. f y x) (reduce f xs) x)
reduce_push f [] x = refl
reduce_push f (y ∷ ys) x = ap Some (fold_push f y ys x)

pub reduced_none : {X : Type 0} (f : X → X → X) (xs : List X) → reduce f xs ≡ None → xs ≡ []
reduced_none f [] e = refl
reduced_none f (x ∷ xs) e = cc

pub map_join : {A B : Type 0} → (f : A → B) (xs ys : List A) → map f (xs ++ ys) ≡ map f xs ++ map f ys
map_join f [] ys = refl
map_join f (x ∷ xs) ys = ap (λ r. f x ∷ r) (map_join f xs ys)

pub map_drop : {A B : Type 0} → (f : A → B) (n : ℕ) (xs : List A) → map f (drop n xs) ≡ drop n (map f xs)
map_drop f zero xs = refl
map_drop f (suc n) [] = refl
map_drop f (suc n) (x ∷ xs) = map_drop f n xs

pub map_take : {A B : Type 0} → (f : A → B) (n : ℕ) (xs : List A) → map f (take n xs) ≡ take n (map f xs)
map_take f zero xs = refl
map_take f (suc n) [] = refl
map_take f (suc n) (x ∷ xs) = ap (λ r. f x ∷ r) (map_take f n xs)

pub length_map : {X Y : Type 0} (f : X → Y) (xs : List X) → length (map f xs) ≡ length xs
length_map f [] = refl
length_map f (x ∷ xs) = ap suc (length_map f xs)
