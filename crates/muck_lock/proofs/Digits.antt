-- Numbers of objects as they are written: what bytes they have, and that they are read again.
use Rattle.std.proofs.Common.{◌≡◌, ℕ, ◌+◌, ◌^◌, ◌<◌, ◌≤◌, suc, true, false, List, [], ◌∷◌, length, get_or, Some, refl, ◌∙◌, ap, inl, inr, arith}
use Rattle.std.specs.Prelude.{ℤ, pos, negsuc, ◌==◌, nat_le}
use Rattle.std.specs.Option.{option_map}
use Rattle.std.specs.List.{list_all}
use Rattle.std.specs.Fmt.{decimal, signed_decimal}
use Rattle.std.proofs.lemmas.Bool.{cases_lt, le-leb, ltb-true, leb-true, ne_eqb}
use Rattle.std.proofs.lemmas.Fmt.{decimal_digit, decimal_nonempty, first_decimal}
use Rattle.muck_laws.proofs.Truths.{and_first, and_rest}
use Rattle.muck_model.specs.Decimal.{is_digit, is_decimal, decimal_of}
use Rattle.muck_model.specs.Numbers.{minus, dbref_numbered, signed_of, dbref_written}
use Rattle.muck_model.proofs.Decimals.{decimal_within, value_of}
pub use Rattle.muck_model.proofs.Decimals.{digits_of}
use Rattle.muck_lock.specs.inner.Made.{is_short}

-- bytes that are digits, of which the first is no 0
decimal_from : (ds : List ℕ) → list_all is_digit ds ≡ true → 0 < length ds → 48 < get_or ds 0 0 → is_decimal ds ≡ true
decimal_from [] h some first = absurd (omega (arith, some))
decimal_from (b ∷ []) h some first = and_first (is_digit b) true h
decimal_from (b ∷ c ∷ more) h some first =
    let d : is_digit b ≡ true = and_first (is_digit b) (list_all is_digit (c ∷ more)) h in
    let low : nat_le 49 b ≡ true = le-leb 49 b (omega (arith, first)) in
    rw (low, and_rest (nat_le 48 b) (nat_le b 57) d, and_rest (is_digit b) (list_all is_digit (c ∷ more)) h) refl

is_decimal-decimal : (n : ℕ) → n < 2 ^ 64 → is_decimal (decimal n) ≡ true
is_decimal-decimal n h =
    elim (cases_lt n 10) [
      | inl one ↦ ap is_decimal (decimal_digit n one) ∙ (let low : nat_le 48 (48 + n) ≡ true = le-leb 48 (48 + n) (omega arith) in let high : nat_le (48 + n) 57 ≡ true = le-leb (48 + n) 57 (omega (arith, one)) in rw (low, high) refl)
      | inr more ↦ decimal_from (decimal n) (digits_of n h) (decimal_nonempty n h) (first_decimal n (omega (arith, more)) h)
    ]

decimal_of-decimal : (most n : ℕ) → n < 2 ^ 64 → n ≤ most → decimal_of most (decimal n) ≡ Some n
decimal_of-decimal most n h le =
    decimal_within most (decimal n) (is_decimal-decimal n h) (let e = value_of n h in omega (arith, e, le)) ∙ ap Some (value_of n h)

-- the first byte of a decimal is a digit
no_sign : (ds : List ℕ) → list_all is_digit ds ≡ true → 0 < length ds → signed_of ds ≡ option_map (λ n. dbref_numbered (pos n)) (decimal_of 2147483647 ds)
no_sign [] h some = absurd (omega (arith, some))
no_sign (b ∷ more) h some =
    let d : is_digit b ≡ true = and_first (is_digit b) (list_all is_digit more) h in
    let low : 48 ≤ b = leb-true 48 b (and_first (nat_le 48 b) (nat_le b 57) d) in
    let other : (b == 45) ≡ false = ne_eqb b 45 (λ e. omega (arith, low, e)) in
    rw other refl

pub dbref_of-written : (z : ℤ) → is_short z ≡ true → dbref_written (35 ∷ signed_decimal z) ≡ Some (dbref_numbered z)
unfolding dbref_written
dbref_of-written (pos n) h =
    let short : n < 2147483648 = ltb-true n 2147483648 h in
    let wide : n < 2 ^ 64 = omega (arith, short) in
    no_sign (decimal n) (digits_of n wide) (decimal_nonempty n wide) ∙ ap (option_map (λ k. dbref_numbered (pos k))) (decimal_of-decimal 2147483647 n wide (omega (arith, short)))
dbref_of-written (negsuc n) h =
    let short : n < 2147483648 = ltb-true n 2147483648 h in
    let wide : suc n < 2 ^ 64 = omega (arith, short) in
    ap (option_map (λ k. dbref_numbered (minus k))) (decimal_of-decimal 2147483648 (suc n) wide (omega (arith, short)))
