-- Numbers of 32 bits divided, and how far they are from 0, as programs and formulas have them.
use Rattle.std.specs.Prelude.{ℤ, pos, if◌then◌else◌, int_lt, int_rem}
use Rattle.std.specs.Ordering.{int_eq}
use Rattle.std.specs.Int.{w32, int_wrapping_div, int_wrapping_neg}

-- toward zero, and 0 where the divisor is 0
abbrev pub quotient : ℤ → ℤ → ℤ
quotient i j = if int_eq j (pos 0) then pos 0 else int_wrapping_div w32 i j

-- with the sign of i, and 0 where the divisor is 0
abbrev pub remainder : ℤ → ℤ → ℤ
remainder i j = if int_eq j (pos 0) then pos 0 else int_rem i j

-- without its sign; the least number has none and stays
abbrev pub magnitude : ℤ → ℤ
magnitude i = if int_lt i (pos 0) then int_wrapping_neg w32 i else i
