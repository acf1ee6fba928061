-- Parts of texts are texts.
use Rattle.std.proofs.Common.{◌≡◌, ℕ, ◌≤◌, Bool, true, false, not, cond, ltb, List, [], ◌∷◌, ◌++◌, length, take, drop, Some, None, refl, arith, zero, suc}
use Rattle.std.proofs.lemmas.Bool.{and_parts, and_from}
use Rattle.std.proofs.lemmas.Bool.Decides.{nat_tests}
use Rattle.std.specs.List.{position_or_len}
use Rattle.muck_laws.proofs.Numbers.{inside_step}
use Rattle.muck_model.specs.Bytes.{is_outside, text_fault, fault_of_bytes, text_most}
use Rattle.muf_token.specs.inner.Bytes.{are_inside}

-- what stands behind the first byte
pub inside_tail : (b : ℕ) (bytes : List ℕ) → are_inside (b ∷ bytes) ≡ true → are_inside bytes ≡ true
inside_tail b bytes h = (and_parts (not (is_outside b)) (are_inside bytes) h).1

pub inside_head : (b : ℕ) (bytes : List ℕ) → are_inside (b ∷ bytes) ≡ true → not (is_outside b) ≡ true
inside_head b bytes h = (and_parts (not (is_outside b)) (are_inside bytes) h).0

pub inside_cons : (b : ℕ) (bytes : List ℕ) → not (is_outside b) ≡ true → are_inside bytes ≡ true → are_inside (b ∷ bytes) ≡ true
inside_cons b bytes h k = and_from (not (is_outside b)) (are_inside bytes) h k

inside_none : (bytes : List ℕ) → length bytes ≤ position_or_len is_outside bytes → are_inside bytes ≡ true
inside_none [] h = refl
inside_none (b ∷ bytes) h = inside_step (is_outside b) (are_inside bytes) (position_or_len is_outside bytes) (length bytes) h (inside_none bytes)

passed_all : (bytes : List ℕ) → are_inside bytes ≡ true → position_or_len is_outside bytes ≡ length bytes
passed_all [] h = refl
passed_all (b ∷ bytes) h =
    let here = inside_head b bytes h in
    let rest = passed_all bytes (inside_tail b bytes h) in
    rw (here, rest) (omega arith)

not_fault : (v : Bool) (at n : ℕ) → fault_of_bytes (cond v (Some at) None) n ≡ None → v ≡ false
not_fault true at n h = cc
not_fault false at n h = refl

pub inside_text : (bytes : List ℕ) → text_fault bytes ≡ None → are_inside bytes ≡ true
inside_text bytes h =
    let none = not_fault (ltb (position_or_len is_outside bytes) (length bytes)) (position_or_len is_outside bytes) (length bytes) h in
    inside_none bytes (grind (arith, nat_tests, none))

pub text_inside : (bytes : List ℕ) → are_inside bytes ≡ true → length bytes ≤ text_most → text_fault bytes ≡ None
text_inside bytes h k = let all = passed_all bytes h in grind (arith, nat_tests, all)

pub inside_append : (xs ys : List ℕ) → are_inside xs ≡ true → are_inside ys ≡ true → are_inside (xs ++ ys) ≡ true
inside_append [] ys h k = k
inside_append (b ∷ xs) ys h k = inside_cons b (xs ++ ys) (inside_head b xs h) (inside_append xs ys (inside_tail b xs h) k)

pub inside_drop : (n : ℕ) (xs : List ℕ) → are_inside xs ≡ true → are_inside (drop n xs) ≡ true
inside_drop zero xs h = h
inside_drop (suc n) [] h = refl
inside_drop (suc n) (b ∷ xs) h = inside_drop n xs (inside_tail b xs h)

pub inside_take : (n : ℕ) (xs : List ℕ) → are_inside xs ≡ true → are_inside (take n xs) ≡ true
inside_take zero xs h = refl
inside_take (suc n) [] h = refl
inside_take (suc n) (b ∷ xs) h = inside_cons b (take n xs) (inside_head b xs h) (inside_take n xs (inside_tail b xs h))

-- what stands behind the first byte of a text
pub ruleset line_parts = (inside_text, inside_tail)
