-- What digits write past a bound.
use Rattle.std.proofs.Common.{◌≡◌, ℕ, suc, ◌+◌, ◌-◌, ◌*◌, ◌<◌, ◌≤◌, true, cond, List, length, drop, get_or, refl, sym, ap, ◌∙◌, arith}
use Rattle.std.specs.Prelude.{◌&&◌, nat_le}
use Rattle.std.specs.List.{list_all}
use Rattle.std.proofs.Math.Seq.{drop-cons}
use Rattle.std.proofs.lemmas.Bool.{cond-false, lt-leb, le-leb, and_right}
use Rattle.muck_model.specs.Decimal.{is_digit, value_from}
use Rattle.muck_model.proofs.Decimals.{value_from-grows}
use Rattle.muf_model.specs.Texts.{amount}

amount_over : (most n : ℕ) (bytes : List ℕ) → most < n → amount most n bytes ≡ 0
amount_over most n bytes over = cond-false _ _ _ (and_right (list_all is_digit bytes) _ (lt-leb _ _ (omega (arith, over, value_from-grows n bytes))))

digit_from : (b : ℕ) → 48 ≤ b → b ≤ 57 → is_digit b ≡ true
digit_from b low high = rw (le-leb 48 b low, le-leb b 57 high) refl

-- a digit that leads past the bound
pub amount_past : (most n : ℕ) (bytes : List ℕ) (at : ℕ) → at < length bytes → 48 ≤ get_or bytes at 0 → get_or bytes at 0 ≤ 57 → most < 10 * n + (get_or bytes at 0 - 48) → 0 ≡ amount most n (drop at bytes)
amount_past most n bytes at inside low high over =
    let value = 10 * n + (get_or bytes at 0 - 48) in
    let rest = drop (suc at) bytes in
    sym (ap (amount most n) (drop-cons bytes at 0 inside)
    ∙ ap (λ d. cond (d && list_all is_digit rest && nat_le (value_from value rest) most) (value_from value rest) 0) (digit_from (get_or bytes at 0) low high)
    ∙ amount_over most value rest over)
