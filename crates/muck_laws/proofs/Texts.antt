-- Bytes, and texts in pieces.
use Rattle.std.proofs.Common.{Bool, List, None, [], ap, append_assoc, arith, bytes_eq, cond, drop, false, get_or, length, length-append, length-drop, length-take, map, not, refl, suc, sym, take, take_all, true, zero, ℕ, ℤ, ◌++◌, ◌+◌, ◌<◌, ◌^◌, ◌∙◌, ◌∷◌, ◌≡◌, ◌≤◌}
use Rattle.std.proofs.lemmas.Bool.Decides.{same_from_decides}
use Rattle.std.proofs.lemmas.Fmt.{length_signed_le}
use Rattle.std.proofs.lemmas.List.{drop-drop, drop-take, take-take, take_more}
use Rattle.std.proofs.lemmas.List.Splits.{slice_split_first, slice_split_none}
use Rattle.std.proofs.lemmas.List.Sums.{fails_before_first}
use Rattle.std.proofs.lemmas.Slice.Eq.{bytes_eq-Decides, slice_eq-Decides}
use Rattle.std.specs.Bool.{Decides}
use Rattle.std.specs.Cmp.{IsEquivalence}
use Rattle.std.specs.Cmp.Lexicographic.{bytes_decides, nat_list_eq_equiv, pointwise}
use Rattle.std.specs.Fmt.{decimal, signed_decimal}
use Rattle.std.specs.Int.{byte_at, bytes_high_first, from_be_bytes, w64}
use Rattle.std.specs.Int.Signed.{mag}
use Rattle.std.specs.List.{AllByRecursion, join_with_byte, onto_first, position, position_or_len, slice_split}
use Rattle.std.specs.Prelude.{IsTrue, codes, ◌↔◌}
use Rattle.muck_laws.proofs.Parts.{word_in}
use Rattle.muck_laws.proofs.Tests.{position_none}
use Rattle.muck_laws.proofs.Truths.{and_false}

pub behind_onto : (x : ℕ) (parts : List (List ℕ)) → drop 1 (onto_first x parts) ≡ drop 1 parts
behind_onto x [] = refl
behind_onto x (part ∷ parts) = refl

pub join_grown : (list item : List ℕ) (more : List (List ℕ)) → join_with_byte 13 ((list ++ 13 ∷ item) ∷ more) ≡ list ++ 13 ∷ join_with_byte 13 (item ∷ more)
join_grown list item [] = refl
join_grown list item (next ∷ more) = append_assoc list (13 ∷ item) (13 ∷ join_with_byte 13 (next ∷ more))

pub join_longer : (list : List ℕ) (more : List (List ℕ)) → length list ≤ length (join_with_byte 13 (list ∷ more))
join_longer list [] = omega arith
join_longer list (next ∷ more) = omega (arith, length-append list (13 ∷ join_with_byte 13 (next ∷ more)))

-- the first one stands alone
pub join_first : (c : ℕ) (p : List (List ℕ)) (i : ℕ) (d x : List ℕ) → i < length p → x ≡ get_or p i d → i ≡ 0 → join_with_byte c (take (i + 1) p) ≡ join_with_byte c (take i p) ++ x
join_first c p i d x h e none =
    ap (join_with_byte c) (take_more p i d h ∙ ap (λ s. take i p ++ s ∷ []) (sym e))
    ∙ ap (λ n. join_with_byte c (take n p ++ x ∷ [])) none
    ∙ sym (ap (λ n. join_with_byte c (take n p) ++ x) none)

pub join_push : (c : ℕ) (s : List ℕ) (p : List (List ℕ)) (x : List ℕ) → join_with_byte c ((s ∷ p) ++ x ∷ []) ≡ join_with_byte c (s ∷ p) ++ (c ∷ x)
join_push c s [] x = refl
join_push c s (t ∷ p) x = ap (λ ys. s ++ (c ∷ ys)) (join_push c t p x) ∙ sym (append_assoc s (c ∷ join_with_byte c (t ∷ p)) (c ∷ x))

pub join_push_some : (c : ℕ) (p : List (List ℕ)) (x : List ℕ) → 0 < length p → join_with_byte c (p ++ x ∷ []) ≡ join_with_byte c p ++ (c ∷ x)
join_push_some c [] x h = absurd (omega arith)
join_push_some c (s ∷ p) x h = join_push c s p x

-- behind others an item stands behind the byte between
pub join_more : (c : ℕ) (p : List (List ℕ)) (i : ℕ) (d x : List ℕ) → i < length p → x ≡ get_or p i d → 0 < i → join_with_byte c (take (i + 1) p) ≡ join_with_byte c (take i p) ++ (c ∷ x)
join_more c p i d x h e more =
    ap (join_with_byte c) (take_more p i d h ∙ ap (λ s. take i p ++ s ∷ []) (sym e))
    ∙ join_push_some c (take i p) x (omega (arith, length-take i p))

pub number_short : (z : ℤ) → mag z < 2 ^ 32 → length (signed_decimal z) ≤ 11
number_short z h = length_signed_le 10 z (omega (arith, h)) (omega (arith, h))

pub no_end : {X : Type 0} (p : X → Bool) (xs : List X) → length xs ≤ position_or_len p xs → slice_split p xs ≡ xs ∷ []
no_end p [] = λ h. refl
no_end p (x ∷ xs) =
    elim (p x) as (λ b. length (x ∷ xs) ≤ cond (not b) (1 + position_or_len p xs) 0 → cond b ([] ∷ slice_split p xs) (onto_first x (slice_split p xs)) ≡ (x ∷ xs) ∷ []) [
      | true ↦ λ h. absurd (omega arith)
      | false ↦ λ h. ap (onto_first x) (no_end p xs (omega arith))
    ]

-- a piece that a byte ends
pub piece_ends : {X : Type 0} (p : X → Bool) (xs piece rest others : List X) (first : X) (at : ℕ) → at ≡ position_or_len p xs →
    piece ≡ take at xs → rest ≡ drop at xs → rest ≡ first ∷ others → slice_split p xs ≡ piece ∷ slice_split p others
piece_ends p xs piece rest others first at e front back is =
    let some : position_or_len p xs < length xs = omega (arith, length-drop at xs, ap length (sym back ∙ is), e) in
    let tail : others ≡ drop (position_or_len p xs + 1) xs = sym (ap (drop 1) is) ∙ ap (drop 1) back ∙ drop-drop 1 at xs ∙ ap (λ n. drop (n + 1) xs) e in
    slice_split_first p xs first some ∙ ap (λ n. take n xs ∷ slice_split p (drop (position_or_len p xs + 1) xs)) (sym e)
    ∙ ap (λ l. l ∷ slice_split p (drop (position_or_len p xs + 1) xs)) (sym front) ∙ ap (λ l. piece ∷ slice_split p l) (sym tail)

-- the last piece
pub piece_last : {X : Type 0} (p : X → Bool) (xs piece rest : List X) (at : ℕ) → at ≡ position_or_len p xs →
    piece ≡ take at xs → rest ≡ drop at xs → length rest ≡ 0 → slice_split p xs ≡ piece ∷ []
piece_last p xs piece rest at e front back none =
    let over : length xs ≤ at = omega (arith, length-drop at xs, ap length back) in
    no_end p xs (omega arith) ∙ ap (λ l. l ∷ []) (sym (front ∙ take_all at xs over))

pub same_word : (n size : ℕ) (l : List ℕ) → n + 8 ≤ 25 → 25 ≤ size → from_be_bytes w64 (take 8 (drop n (take 25 l))) ≡ from_be_bytes w64 (take 8 (drop n (take size l)))
same_word n size l le big = ap (from_be_bytes w64) (word_in n 25 l le ∙ sym (word_in n size l (omega (arith, le, big))))

pub size_word : (front file rest : List ℕ) → front ≡ take 34 file → rest ≡ drop 1 front → from_be_bytes w64 (take 8 rest) ≡ from_be_bytes w64 (take 8 (drop 1 file))
size_word front file rest same at = ap (λ l. from_be_bytes w64 (take 8 l)) (at ∙ ap (drop 1) same ∙ drop-take 1 33 file) ∙ ap (from_be_bytes w64) (take-take 8 33 (drop 1 file) (omega arith))

pub bytes_equal : (a b : List ℕ) → a ≡ b → bytes_eq a b ≡ true
bytes_equal a b e = (bytes_eq-Decides a b).1 e

pub same_bytes : (a b : List ℕ) → bytes_eq a b ≡ true → a ≡ b
same_bytes a b e = (bytes_eq-Decides a b).0 e

pub byte_small : (k n : ℕ) → byte_at k n < 256
byte_small zero n = omega arith
byte_small (suc k) n = omega arith

pub length-bytes_high : (k n : ℕ) → length (bytes_high_first k n) ≡ k
length-bytes_high zero n = refl
length-bytes_high (suc k) n = let e : length (bytes_high_first k n) ≡ k = length-bytes_high k n in omega arith

pub shown_ended : (d : ℕ) (text : List ℕ) → decimal d ++ ((codes "< " ++ text) ++ 10 ∷ []) ≡ decimal d ++ codes "< " ++ text ++ 10 ∷ []
shown_ended d text = sym (ap (λ (x : List ℕ). x ++ 10 ∷ []) (append_assoc (decimal d) (codes "< ") text) ∙ append_assoc (decimal d) (codes "< " ++ text) (10 ∷ []))

-- lists of texts
pub texts_same : (xs ys : List (List ℕ)) (r : Bool) → r ≡ pointwise bytes_eq xs ys → Decides r (xs ≡ ys)
texts_same = slice_eq-Decides bytes_eq-Decides

-- no separator
pub split_none : (p : ℕ → Bool) (xs : List ℕ) → position p xs ≡ None → slice_split p xs ≡ xs ∷ []
split_none p xs h =
    let le : length xs ≤ position_or_len p xs = position_none p xs h in
    slice_split_none p xs (λ k d lt. fails_before_first p xs k d (omega (arith, lt, le)))

pub shorter_differs : (f : ℕ → ℕ) (xs ys : List ℕ) → length ys < length xs → bytes_eq (map f xs) (map f ys) ≡ false
shorter_differs f [] ys lt = absurd (omega arith)
shorter_differs f (x ∷ xs) [] lt = refl
shorter_differs f (x ∷ xs) (y ∷ ys) lt = rw (shorter_differs f xs ys (omega arith)) (and_false _)

pub bytes_equal_itself : (s : List ℕ) → bytes_eq s s ≡ true
bytes_equal_itself s = (bytes_decides s s).1 refl

pub onto_first_part : (P : ℕ → Type 0) (b : ℕ) (parts : List (List ℕ)) → P b → AllByRecursion (AllByRecursion P) parts → AllByRecursion (AllByRecursion P) (onto_first b parts)
onto_first_part P b [] h all = ((h, tt), tt)
onto_first_part P b (part ∷ parts) h all = ((h, all.0), all.1)

pub tests_equal : (b : Bool) (xs ys : List ℕ) → (IsTrue b ↔ (xs ≡ ys)) → b ≡ bytes_eq xs ys
tests_equal b xs ys h = same_from_decides b (bytes_eq xs ys) h (bytes_eq-Decides xs ys)

pub bytes_equivalence : IsEquivalence bytes_eq
bytes_equivalence = nat_list_eq_equiv
