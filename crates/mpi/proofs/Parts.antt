-- What the functions of texts make of texts has the bytes that a text may have.
use Rattle.std.proofs.Common.{◌≡◌, ℕ, ◌+◌, ◌-◌, Bool, true, false, cond, List, [], ◌∷◌, ◌++◌, map, take, drop, None, refl, inl, inr, arith, sym, subst}
use Rattle.std.specs.Prelude.{◌==◌, reverse, ℤ}
use Rattle.std.specs.Char.{to_ascii_lowercase, to_ascii_uppercase}
use Rattle.std.specs.List.{list_all, slice_split, onto_first, join_with_byte}
use Rattle.std.proofs.lemmas.Bool.{le-ltb, lt-ltb, cases_lt}
use Rattle.std.proofs.lemmas.List.{reverse-append}
use Rattle.muck_laws.proofs.Tests.{all_append, all_cons, all_drop, all_head, all_tail, all_take}
use Rattle.muck_model.specs.Bytes.{text_fault}
use Rattle.mpi.specs.Made.{Inside}
use Rattle.mpi.specs.Values.{past_spaces, stripped, items, part_between, above_zero, sublist}
use Rattle.mpi.proofs.Inside.{is_inside, text_inside, inside-decimal}

lowered_byte : (b : ℕ) → is_inside b ≡ true → is_inside (to_ascii_lowercase b) ≡ true
lowered_byte b h =
    elim (cases_lt b 65) [
      | inl less ↦ rw (lt-ltb b 65 less) h
      | inr more ↦ elim (cases_lt b 91) [
        | inl less ↦ rw (le-ltb b 65 more, lt-ltb b 91 less) (rw (le-ltb (b + 32) 32 (omega arith), le-ltb 126 (b + 32) (omega arith)) refl)
        | inr past ↦ rw (le-ltb b 65 more, le-ltb b 91 past) h
      ]
    ]

raised_byte : (b : ℕ) → is_inside b ≡ true → is_inside (to_ascii_uppercase b) ≡ true
raised_byte b h =
    elim (cases_lt b 97) [
      | inl less ↦ rw (lt-ltb b 97 less) h
      | inr more ↦ elim (cases_lt b 123) [
        | inl less ↦ rw (le-ltb b 97 more, lt-ltb b 123 less) (rw (le-ltb (b - 32) 32 (omega arith), le-ltb 126 (b - 32) (omega arith)) refl)
        | inr past ↦ rw (le-ltb b 97 more, le-ltb b 123 past) h
      ]
    ]

inside_map : (f : ℕ → ℕ) → ((b : ℕ) → is_inside b ≡ true → is_inside (f b) ≡ true) → (xs : List ℕ) → Inside xs → Inside (map f xs)
inside_map f k [] h = refl
inside_map f k (x ∷ xs) h = all_cons is_inside (f x) (map f xs) (k x (all_head is_inside x xs h)) (inside_map f k xs (all_tail is_inside x xs h))

pub inside_lowered : (xs : List ℕ) → text_fault xs ≡ None → Inside (map to_ascii_lowercase xs)
inside_lowered xs h = inside_map to_ascii_lowercase lowered_byte xs (text_inside xs h)

pub inside_raised : (xs : List ℕ) → text_fault xs ≡ None → Inside (map to_ascii_uppercase xs)
inside_raised xs h = inside_map to_ascii_uppercase raised_byte xs (text_inside xs h)

inside_reverse : (xs : List ℕ) → Inside xs → Inside (reverse xs)
inside_reverse [] h = refl
inside_reverse (x ∷ xs) h =
    let e : reverse (x ∷ xs) ≡ reverse xs ++ x ∷ [] = reverse-append (x ∷ []) xs in
    subst (λ ys. Inside ys) (sym e) (all_append is_inside (reverse xs) (x ∷ []) (inside_reverse xs (all_tail is_inside x xs h)) (all_cons is_inside x [] (all_head is_inside x xs h) refl))

inside_past : (xs : List ℕ) → Inside xs → Inside (past_spaces xs)
unfolding past_spaces
inside_past [] h = refl
inside_past (x ∷ xs) h =
    elim (x == 32) as (λ t. Inside (cond t (past_spaces xs) (x ∷ xs))) [
      | true ↦ inside_past xs (all_tail is_inside x xs h)
      | false ↦ h
    ]

pub inside_stripped : (xs : List ℕ) → text_fault xs ≡ None → Inside (stripped xs)
unfolding stripped
inside_stripped xs h = inside_reverse (past_spaces (reverse (past_spaces xs))) (inside_past (reverse (past_spaces xs)) (inside_reverse (past_spaces xs) (inside_past xs (text_inside xs h))))

-- the parts of a list, each of which may stand in a text
abbrev all_inside : List (List ℕ) → Bool
all_inside parts = list_all (λ part. list_all is_inside part) parts

onto_inside : (x : ℕ) (parts : List (List ℕ)) → is_inside x ≡ true → all_inside parts ≡ true → all_inside (onto_first x parts) ≡ true
onto_inside x [] h k = all_cons (λ part. list_all is_inside part) (x ∷ []) [] (all_cons is_inside x [] h refl) refl
onto_inside x (part ∷ parts) h k =
    all_cons (λ part. list_all is_inside part) (x ∷ part) parts
    (all_cons is_inside x part h (all_head (λ part. list_all is_inside part) part parts k))
    (all_tail (λ part. list_all is_inside part) part parts k)

split_inside : (p : ℕ → Bool) (xs : List ℕ) → Inside xs → all_inside (slice_split p xs) ≡ true
split_inside p [] h = refl
split_inside p (x ∷ xs) h =
    elim (p x) as (λ t. all_inside (cond t ([] ∷ slice_split p xs) (onto_first x (slice_split p xs))) ≡ true) [
      | true ↦ split_inside p xs (all_tail is_inside x xs h)
      | false ↦ onto_inside x (slice_split p xs) (all_head is_inside x xs h) (split_inside p xs (all_tail is_inside x xs h))
    ]

pub items_inside : (xs : List ℕ) → Inside xs → all_inside (items xs) ≡ true
unfolding items
items_inside [] h = refl
items_inside (x ∷ xs) h = split_inside (λ c. c == 13) (x ∷ xs) h

pub join_inside : (parts : List (List ℕ)) → all_inside parts ≡ true → Inside (join_with_byte 13 parts)
join_inside [] h = refl
join_inside (part ∷ []) h = all_head (λ part. list_all is_inside part) part [] h
join_inside (part ∷ next ∷ parts) h =
    all_append is_inside part (13 ∷ join_with_byte 13 (next ∷ parts)) (all_head (λ part. list_all is_inside part) part (next ∷ parts) h)
    (all_cons is_inside 13 (join_with_byte 13 (next ∷ parts)) refl (join_inside (next ∷ parts) (all_tail (λ part. list_all is_inside part) part (next ∷ parts) h)))

pub inside_sublist : (xs : List ℕ) (p q : ℤ) → text_fault xs ≡ None → Inside (sublist xs p q)
inside_sublist xs p q h =
    join_inside (part_between p q (items xs))
    (all_take (λ part. list_all is_inside part) (above_zero q - (above_zero p - 1)) (drop (above_zero p - 1) (items xs))
    (all_drop (λ part. list_all is_inside part) (above_zero p - 1) (items xs) (items_inside xs (text_inside xs h))))

pub inside_parts : (n m : ℕ) (xs : List ℕ) → text_fault xs ≡ None → Inside (take n (drop m xs))
inside_parts n m xs h = all_take is_inside n (drop m xs) (all_drop is_inside m xs (text_inside xs h))

pub ruleset part_steps = (text_inside, inside_lowered, inside_raised, inside_stripped, inside_sublist, inside_parts, inside-decimal)
