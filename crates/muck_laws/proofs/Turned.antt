-- Lists turned round.
use Rattle.std.proofs.Common.{List, None, Some, [], ap, append_assoc, arith, drop, insert, length, length-drop, map, refl, reverse, suc, sym, take, take-append-drop, zero, ℕ, ◌++◌, ◌+◌, ◌-◌, ◌<◌, ◌∙◌, ◌∷◌, ◌≡◌, ◌≤◌}
use Rattle.std.proofs.Math.Seq.{drop-append_seam, take-append_seam}
use Rattle.std.proofs.lemmas.List.{length-reverse, map-append, reverse-append, reverse-reverse}
use Rattle.std.specs.List.{remove}
use Rattle.std.specs.Prelude.{slice_get}

-- one item more before those from a place on
pub turned_more : {A : Type 0} → (xs : List A) (at : ℕ) (x : A) → slice_get xs at ≡ Some x → reverse (drop at xs) ≡ reverse (drop (at + 1) xs) ++ x ∷ []
turned_more [] at x e = absurd (let no : None ≡ Some x = e in cc)
turned_more (y ∷ xs) zero x e = let q : y ≡ x = cc in rw q (reverse-append (x ∷ []) xs)
turned_more (y ∷ xs) (suc at) x e = let z : suc at + 1 ≡ suc (at + 1) = omega arith in rw z (turned_more xs at x e)

pub map_reverse : {A B : Type 0} → (f : A → B) (xs : List A) → map f (reverse xs) ≡ reverse (map f xs)
map_reverse f [] = refl
map_reverse f (x ∷ xs) =
    ap (map f) (reverse-append (x ∷ []) xs) ∙ map-append f (reverse xs) (x ∷ []) ∙ ap (λ r. r ++ (f x ∷ [])) (map_reverse f xs) ∙ sym (reverse-append (f x ∷ []) (map f xs))

pub map_reversed : {A B : Type 0} → (f : A → B) (xs ys : List A) → map f xs ≡ map f ys → map f (reverse xs) ≡ map f (reverse ys)
map_reversed f xs ys e = map_reverse f xs ∙ ap reverse e ∙ sym (map_reverse f ys)

-- the last item of a list is the first one of the reversed list
pub reversed_last : {A : Type 0} → (k : ℕ) (xs : List A) (x : A) → drop k xs ≡ x ∷ [] → reverse xs ≡ x ∷ reverse (take k xs)
reversed_last k xs x e =
    ap reverse (sym (take-append-drop k xs)) ∙ reverse-append (take k xs) (drop k xs) ∙ ap (λ r. reverse r ++ reverse (take k xs)) e

pub reverse_drop_length : {A : Type 0} → (n : ℕ) (xs : List A) → length (reverse (drop n xs)) ≡ length xs - n
reverse_drop_length n xs = length-reverse (drop n xs) ∙ length-drop n xs

pub reverse_parts : {A : Type 0} → (n : ℕ) (xs : List A) → reverse xs ≡ reverse (drop n xs) ++ reverse (take n xs)
reverse_parts n xs = sym (ap reverse (take-append-drop n xs)) ∙ reverse-append (take n xs) (drop n xs)

-- what stands above a height
pub above_height : {A : Type 0} → (n : ℕ) (xs : List A) → reverse (drop n xs) ≡ take (length xs - n) (reverse xs)
above_height n xs =
    sym (ap (λ k. take k (reverse xs)) (sym (reverse_drop_length n xs)) ∙ ap (take (length (reverse (drop n xs)))) (reverse_parts n xs) ∙ take-append_seam (reverse (drop n xs)) (reverse (take n xs)))

pub above_depth : {A : Type 0} → (n m : ℕ) (xs : List A) → m ≡ length (reverse xs) → n ≤ m → reverse (drop (m - n) xs) ≡ take n (reverse xs)
above_depth n m xs e h =
    let k : length xs - (m - n) ≡ n = omega (arith, e, h, length-reverse xs) in
    above_height (m - n) xs ∙ ap (λ k. take k (reverse xs)) k

-- what is kept below a height
pub below_height : {A : Type 0} → (n : ℕ) (xs : List A) → reverse (take n xs) ≡ drop (length xs - n) (reverse xs)
below_height n xs =
    sym (ap (λ k. drop k (reverse xs)) (sym (reverse_drop_length n xs)) ∙ ap (drop (length (reverse (drop n xs)))) (reverse_parts n xs) ∙ drop-append_seam (reverse (drop n xs)) (reverse (take n xs)))

-- the same, by depths in a stack of m items
pub below_depth : {A : Type 0} → (n m : ℕ) (xs : List A) → m ≡ length (reverse xs) → n ≤ m → reverse (take (m - n) xs) ≡ drop n (reverse xs)
below_depth n m xs e h =
    let k : length xs - (m - n) ≡ n = omega (arith, e, h, length-reverse xs) in
    below_height (m - n) xs ∙ ap (λ k. drop k (reverse xs)) k

pub reverse_cons : {A : Type 0} → (x : A) (xs : List A) → reverse (x ∷ xs) ≡ reverse xs ++ (x ∷ [])
reverse_cons x xs = reverse-append (x ∷ []) xs

pub inserted : {A : Type 0} → (n m : ℕ) (xs : List A) (x : A) → m ≡ length (reverse xs) → n ≤ m → reverse (insert xs (m - n) x) ≡ take n (reverse xs) ++ (x ∷ drop n (reverse xs))
inserted n m xs x e h =
    reverse-append (take (m - n) xs) (x ∷ drop (m - n) xs)
    ∙ ap (λ r. reverse (x ∷ drop (m - n) xs) ++ r) (below_depth n m xs e h)
    ∙ ap (λ r. r ++ drop n (reverse xs)) (reverse_cons x (drop (m - n) xs))
    ∙ ap (λ r. (r ++ (x ∷ [])) ++ drop n (reverse xs)) (above_depth n m xs e h)
    ∙ append_assoc (take n (reverse xs)) (x ∷ []) (drop n (reverse xs))

pub removed : {A : Type 0} → (n m : ℕ) (xs : List A) → m ≡ length (reverse xs) → n < m → reverse (remove xs (m - 1 - n)) ≡ take n (reverse xs) ++ drop (n + 1) (reverse xs)
removed n m xs e h =
    let i : m - 1 - n ≡ m - (n + 1) = omega (arith, h) in
    let j : suc (m - 1 - n) ≡ m - n = omega (arith, h) in
    reverse-append (take (m - 1 - n) xs) (drop (suc (m - 1 - n)) xs)
    ∙ ap (λ k. reverse (drop k xs) ++ reverse (take (m - 1 - n) xs)) j
    ∙ ap (λ k. reverse (drop (m - n) xs) ++ reverse (take k xs)) i
    ∙ ap (λ r. r ++ reverse (take (m - (n + 1)) xs)) (above_depth n m xs e (omega (arith, h)))
    ∙ ap (λ r. take n (reverse xs) ++ r) (below_depth (n + 1) m xs e (omega (arith, h)))

-- the items at the top, reversed in place
pub reversed_top : {A : Type 0} → (n m : ℕ) (xs : List A) → m ≡ length (reverse xs) → n ≤ m → reverse (take (m - n) xs ++ reverse (drop (m - n) xs)) ≡ reverse (take n (reverse xs)) ++ drop n (reverse xs)
reversed_top n m xs e h =
    reverse-append (take (m - n) xs) (reverse (drop (m - n) xs))
    ∙ ap (λ r. reverse r ++ reverse (take (m - n) xs)) (above_depth n m xs e h)
    ∙ ap (λ r. reverse (take n (reverse xs)) ++ r) (below_depth n m xs e h)

-- those that are left of a call stack
pub kept_programs : {A : Type 0} (k : ℕ) (xs : List A) → reverse (take (length xs - k) xs) ≡ drop k (reverse xs)
kept_programs k xs =
    let same : take (length xs - k) xs ≡ reverse (drop k (reverse xs)) = sym (above_height k (reverse xs) ∙ ap (λ l. take (l - k) (reverse (reverse xs))) (length-reverse xs) ∙ ap (take (length xs - k)) (reverse-reverse xs)) in
    ap reverse same ∙ reverse-reverse (drop k (reverse xs))
