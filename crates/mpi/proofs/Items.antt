-- The items of a text are texts, and so is each of a list whose texts all are.
use Rattle.std.proofs.Common.{◌≡◌, ℕ, ◌+◌, ◌<◌, ◌≤◌, zero, suc, Bool, true, false, cond, List, [], ◌∷◌, length, get_or, Some, None, refl, arith, ap, ◌∙◌, nat_lt}
use Rattle.std.specs.Prelude.{is_none, ◌==◌, bytes_eq}
use Rattle.std.specs.List.{list_all, slice_split, onto_first}
use Rattle.std.proofs.lemmas.Bool.{le-ltb, lt-ltb, ltb-true}
use Rattle.std.proofs.lemmas.List.Sums.{position_or_len_is}
use Rattle.muck_laws.proofs.Options.{none_of}
use Rattle.muck_laws.proofs.Tests.{all_cons, all_head, all_tail}
use Rattle.muck_model.specs.Bytes.{text_fault, text_most}
use Rattle.mpi.specs.Made.{is_text}
use Rattle.mpi.specs.Values.{items, from_one, place_of_item}
use Rattle.mpi.proofs.Inside.{is_inside, text_inside, text_short, made_is_text}
use Rattle.mpi.proofs.Parts.{items_inside}

abbrev is_short : ℕ → List ℕ → Bool
is_short n part = nat_lt (length part) (suc n)

more_short : (n : ℕ) (parts : List (List ℕ)) → list_all (is_short n) parts ≡ true → list_all (is_short (suc n)) parts ≡ true
more_short n [] h = refl
more_short n (part ∷ parts) h =
    let short : length part < suc n = ltb-true _ _ (all_head (is_short n) part parts h) in
    all_cons (is_short (suc n)) part parts (lt-ltb (length part) (suc (suc n)) (omega arith)) (more_short n parts (all_tail (is_short n) part parts h))

onto_short : (n x : ℕ) (parts : List (List ℕ)) → list_all (is_short n) parts ≡ true → list_all (is_short (suc n)) (onto_first x parts) ≡ true
onto_short n x [] h = all_cons (is_short (suc n)) (x ∷ []) [] (lt-ltb 1 (suc (suc n)) (omega arith)) refl
onto_short n x (part ∷ parts) h =
    let short : length part < suc n = ltb-true _ _ (all_head (is_short n) part parts h) in
    all_cons (is_short (suc n)) (x ∷ part) parts (lt-ltb (suc (length part)) (suc (suc n)) (omega arith)) (more_short n parts (all_tail (is_short n) part parts h))

split_short : (p : ℕ → Bool) (xs : List ℕ) → list_all (is_short (length xs)) (slice_split p xs) ≡ true
split_short p [] = all_cons (is_short 0) [] [] (lt-ltb 0 1 (omega arith)) refl
split_short p (x ∷ xs) =
    elim (p x) as (λ t. list_all (is_short (suc (length xs))) (cond t ([] ∷ slice_split p xs) (onto_first x (slice_split p xs))) ≡ true) [
      | true ↦ all_cons (is_short (suc (length xs))) [] (slice_split p xs) (lt-ltb 0 (suc (suc (length xs))) (omega arith)) (more_short (length xs) (slice_split p xs) (split_short p xs))
      | false ↦ onto_short (length xs) x (slice_split p xs) (split_short p xs)
    ]

items_short : (xs : List ℕ) → list_all (is_short (length xs)) (items xs) ≡ true
unfolding items
items_short [] = refl
items_short (x ∷ xs) = split_short (λ c. c == 13) (x ∷ xs)

texts_if : (n : ℕ) (parts : List (List ℕ)) → n ≤ text_most → list_all (is_short n) parts ≡ true → list_all (λ part. list_all is_inside part) parts ≡ true → list_all is_text parts ≡ true
texts_if n [] le h k = refl
texts_if n (part ∷ parts) le h k =
    let short : length part < suc n = ltb-true _ _ (all_head (is_short n) part parts h) in
    all_cons is_text part parts
    (ap is_none (made_is_text part (all_head (λ xs. list_all is_inside xs) part parts k) (omega arith)))
    (texts_if n parts le (all_tail (is_short n) part parts h) (all_tail (λ xs. list_all is_inside xs) part parts k))

-- the items of a text are texts
pub items_are_texts : (xs : List ℕ) → text_fault xs ≡ None → list_all is_text (items xs) ≡ true
items_are_texts xs h = texts_if (length xs) (items xs) (text_short xs h) (items_short xs) (items_inside xs (text_inside xs h))

-- each of a list whose texts all are
pub text_there : (texts : List (List ℕ)) (i : ℕ) (d : List ℕ) → list_all is_text texts ≡ true → i < length texts → text_fault (get_or texts i d) ≡ None
text_there [] i d h less = absurd (omega (arith, less))
text_there (text ∷ texts) zero d h less = none_of (text_fault text) (all_head is_text text texts h)
text_there (text ∷ texts) (suc i) d h less = text_there texts i d (all_tail is_text text texts h) (omega (arith, less))

abbrev is_item : List ℕ → List ℕ → Bool
is_item item part = bytes_eq part item

found_place : (n m : ℕ) → n < m → from_one (cond (nat_lt n m) (Some n) None) ≡ suc n
found_place n m less = rw (lt-ltb n m less) refl

no_place : (n m : ℕ) → m ≤ n → from_one (cond (nat_lt n m) (Some n) None) ≡ 0
no_place n m le = rw (le-ltb n m le) refl

-- the first place of an item
pub item_found : (item : List ℕ) (parts : List (List ℕ)) (i : ℕ) → i < length parts → ((k : ℕ) → k < i → bytes_eq (get_or parts k []) item ≡ false)
    → bytes_eq (get_or parts i []) item ≡ true → place_of_item item parts ≡ i + 1
item_found item parts i less before here =
    let e = position_or_len_is (is_item item) parts i [] (omega arith) before (λ h. here) in
    ap (λ n. from_one (cond (nat_lt n (length parts)) (Some n) None)) e ∙ found_place i (length parts) less ∙ (omega arith)

-- an item that isn't there
pub item_lacks : (item : List ℕ) (parts : List (List ℕ)) → ((k : ℕ) → k < length parts → bytes_eq (get_or parts k []) item ≡ false) → place_of_item item parts ≡ 0
item_lacks item parts before =
    let e = position_or_len_is (is_item item) parts (length parts) [] (omega arith) before (λ h. absurd (omega (arith, h))) in
    ap (λ n. from_one (cond (nat_lt n (length parts)) (Some n) None)) e ∙ no_place (length parts) (length parts) (omega arith)

-- a list that isn't empty is cut at each byte between
pub items_some : (xs : List ℕ) → 0 < length xs → items xs ≡ slice_split (λ c. c == 13) xs
unfolding items
items_some [] h = absurd (omega (arith, h))
items_some (x ∷ xs) h = refl
