-- Which bytes are a text, and that the text of a fault is one.
use Rattle.std.proofs.Common.{◌≡◌, ℕ, ◌<◌, ◌≤◌, ◌+◌, ◌^◌, zero, suc, Bool, true, false, cond, List, [], ◌∷◌, ◌++◌, length, map, None, refl, arith, length-append}
use Rattle.std.specs.Prelude.{not, codes, decimal}
use Rattle.std.specs.List.{position_or_len, prefix_len}
use Rattle.std.specs.Int.Digits.{AllBelowBase, digits_of}
use Rattle.std.proofs.lemmas.Bool.{le-ltb}
use Rattle.std.proofs.lemmas.Fmt.{decimal-digits_of, decimal_digit, length-decimal-le}
use Rattle.std.proofs.lemmas.Int.Digits.{all_below_base_digits_of}
use Rattle.muck_model.specs.Bytes.{is_outside, text_fault, text_most}
use Rattle.muf_model.specs.declared.fault.MufFault.TheVariants.{Denied}
use Rattle.muf_model.specs.Faults.{fault_text}

abbrev pub is_inside : ℕ → Bool
is_inside b = not (is_outside b)

-- all bytes are those of texts
abbrev pub IsInside : List ℕ → Type 0
IsInside xs = prefix_len is_inside xs ≡ length xs

pub inside-cons : (b : ℕ) (xs : List ℕ) → is_inside b ≡ true → IsInside xs → IsInside (b ∷ xs)
inside-cons b xs e h = rw e (omega (arith, h))

pub inside-first : (b : ℕ) (xs : List ℕ) → IsInside (b ∷ xs) → (is_inside b ≡ true) × IsInside xs
inside-first b xs = elim (is_inside b) as (λ t. cond t (1 + prefix_len is_inside xs) 0 ≡ suc (length xs) → (t ≡ true) × IsInside xs) [
  | true ↦ λ h. (refl, omega (arith, h))
  | false ↦ λ h. absurd (omega (arith, h))
]

pub inside-append : (xs ys : List ℕ) → IsInside xs → IsInside ys → IsInside (xs ++ ys)
inside-append [] ys h k = k
inside-append (x ∷ xs) ys h k = let f = inside-first x xs h in inside-cons x (xs ++ ys) f.0 (inside-append xs ys f.1 k)

digit : (d : ℕ) → d < 10 → is_inside (48 + d) ≡ true
digit d l = rw (le-ltb (48 + d) 32 (omega arith), le-ltb 126 (48 + d) (omega arith)) refl

inside-digits : (ds : List ℕ) → AllBelowBase 10 ds → IsInside (map (λ d. 48 + d) ds)
inside-digits [] h = refl
inside-digits (d ∷ ds) h = inside-cons (48 + d) (map (λ d. 48 + d) ds) (digit d h.0) (inside-digits ds h.1)

pub inside-decimal : (n : ℕ) → n < 2 ^ 64 → IsInside (decimal n)
inside-decimal zero l = rw (decimal_digit 0 (omega arith)) refl
inside-decimal (suc n) l =
    rw (decimal-digits_of (suc n) (omega arith) (omega (arith, l))) (inside-digits (digits_of 10 (suc n)) (all_below_base_digits_of 10 (suc n) (omega arith)))

pub from_inside : (xs : List ℕ) → IsInside xs → length xs ≤ text_most → text_fault xs ≡ None
from_inside xs h le =
    let past : length xs ≤ position_or_len is_outside xs = omega (arith, h) in
    rw (le-ltb (position_or_len is_outside xs) (length xs) past, le-ltb text_most (length xs) le) refl

pub denied_is_text : (rule : ℕ) → rule < 2 ^ 8 → text_fault (fault_text (Denied rule)) ≡ None
denied_is_text rule l =
    from_inside (fault_text (Denied rule)) (inside-append (codes "Permission denied (P") (decimal rule ++ codes ").") refl (inside-append (decimal rule) (codes ").") (inside-decimal rule (omega (arith, l))) refl))
    (rw (length-append (codes "Permission denied (P") (decimal rule ++ codes ").")) (rw (length-append (decimal rule) (codes ").")) (omega (arith, length-decimal-le 3 rule (omega arith) (omega arith) (omega arith)))))
