-- Bytes that a text may have, and how many it may have.
use Rattle.std.proofs.Common.{◌≡◌, ℕ, ◌<◌, ◌≤◌, ◌+◌, ◌^◌, zero, suc, Bool, true, false, cond, List, [], ◌∷◌, ◌++◌, length, map, take, drop, Some, None, refl, inl, inr, arith}
use Rattle.std.specs.Prelude.{not, decimal, ℤ, pos, negsuc}
use Rattle.std.specs.Fmt.{signed_decimal}
use Rattle.std.specs.Int.Signed.{mag}
use Rattle.std.specs.Int.Digits.{AllBelowBase, digits_of}
use Rattle.std.proofs.lemmas.Fmt.{decimal-digits_of, decimal_digit}
use Rattle.std.proofs.lemmas.Int.Digits.{all_below_base_digits_of}
use Rattle.std.specs.List.{position_or_len}
use Rattle.std.proofs.lemmas.Bool.{le-ltb, lt-ltb, cases_lt}
use Rattle.std.proofs.lemmas.List.{length-take, length-drop}
use Rattle.std.proofs.lemmas.List.Sums.{prefix_len-le-length}
use Rattle.muck_laws.proofs.Tests.{all_append, all_drop, all_prefix, all_take, prefix_all}
use Rattle.muck_model.specs.Bytes.{is_outside, fault_of_bytes, text_fault, text_most}
use Rattle.mpi.specs.Made.{Inside}

abbrev pub is_inside : ℕ → Bool
is_inside b = not (is_outside b)

-- enough bytes and none too many are a text
pub made_is_text : (xs : List ℕ) → Inside xs → length xs ≤ text_most → text_fault xs ≡ None
made_is_text xs h le =
    let e = all_prefix is_inside xs h in
    rw (le-ltb (position_or_len is_outside xs) (length xs) (omega (arith, e)), le-ltb text_most (length xs) le) refl

-- a text has such bytes, and not too many
pub text_inside : (xs : List ℕ) → text_fault xs ≡ None → Inside xs
text_inside xs h =
    elim (cases_lt (position_or_len is_outside xs) (length xs)) [
      | inl inside ↦ absurd (let e : fault_of_bytes (cond true (Some (position_or_len is_outside xs)) None) (length xs) ≡ None = rw (lt-ltb (position_or_len is_outside xs) (length xs) inside) at h in cc)
      | inr past ↦ prefix_all is_inside xs (omega (arith, past, prefix_len-le-length is_inside xs))
    ]

pub text_short : (xs : List ℕ) → text_fault xs ≡ None → length xs ≤ text_most
text_short xs h =
    elim (cases_lt text_most (length xs)) [
      | inl long ↦ absurd (
          let e = all_prefix is_inside xs (text_inside xs h) in
          let none : fault_of_bytes None (length xs) ≡ None = rw (le-ltb (position_or_len is_outside xs) (length xs) (omega (arith, e))) at h in
          let some : Some text_most ≡ None = rw (lt-ltb text_most (length xs) long) at none in cc)
      | inr le ↦ le
    ]

-- parts of a text are texts
pub part_is_text : (n : ℕ) (xs : List ℕ) → text_fault xs ≡ None → text_fault (take n xs) ≡ None
part_is_text n xs h = made_is_text (take n xs) (all_take is_inside n xs (text_inside xs h)) (omega (arith, text_short xs h, length-take n xs))

pub rest_is_text : (n : ℕ) (xs : List ℕ) → text_fault xs ≡ None → text_fault (drop n xs) ≡ None
rest_is_text n xs h = made_is_text (drop n xs) (all_drop is_inside n xs (text_inside xs h)) (omega (arith, text_short xs h, length-drop n xs))

digit : (d : ℕ) → d < 10 → is_inside (48 + d) ≡ true
digit d l = rw (le-ltb (48 + d) 32 (omega arith), le-ltb 126 (48 + d) (omega arith)) refl

inside-digits : (ds : List ℕ) → AllBelowBase 10 ds → Inside (map (λ d. 48 + d) ds)
inside-digits [] h = refl
inside-digits (d ∷ ds) h = rw (digit d h.0) (inside-digits ds h.1)

pub inside-decimal : (n : ℕ) → n < 2 ^ 64 → Inside (decimal n)
inside-decimal zero l = rw (decimal_digit 0 (omega arith)) refl
inside-decimal (suc n) l =
    rw (decimal-digits_of (suc n) (omega arith) (omega (arith, l))) (inside-digits (digits_of 10 (suc n)) (all_below_base_digits_of 10 (suc n) (omega arith)))

-- numbers are texts
pub inside_number : (z : ℤ) → mag z < 2 ^ 32 → Inside (signed_decimal z)
inside_number (pos n) h = inside-decimal n (omega (arith, h))
inside_number (negsuc n) h = inside-decimal (suc n) (omega (arith, h))

pub inside_byte : (b : ℕ) → is_outside b ≡ false → Inside (b ∷ [])
inside_byte b h = rw h refl

pub inside_more : (xs ys : List ℕ) → Inside xs → Inside ys → Inside (xs ++ ys)
inside_more xs ys h k = all_append is_inside xs ys h k

pub ruleset number_steps = (inside_number)

pub ruleset text_steps = (made_is_text, text_inside, text_short, part_is_text, rest_is_text)
