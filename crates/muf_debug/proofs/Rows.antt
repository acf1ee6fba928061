-- The worked rows.
use Rattle.std.proofs.Common.{refl, arith}
use Rattle.std.proofs.lemmas.Fmt.{decimal_digit}
use Rattle.muf_debug.specs.inner.Rows.{RowsHold}

pub rows : RowsHold
rows = record {
  number = rw (decimal_digit 1 (omega arith), decimal_digit 2 (omega arith), decimal_digit 3 (omega arith)) refl;
  empty_text = rw (decimal_digit 1 (omega arith), decimal_digit 2 (omega arith)) refl;
  nothing = rw (decimal_digit 1 (omega arith), decimal_digit 2 (omega arith), decimal_digit 0 (omega arith)) refl;
  top = rw (decimal_digit 1 (omega arith), decimal_digit 2 (omega arith), decimal_digit 9 (omega arith), decimal_digit 7 (omega arith)) refl;
  scope = rw (decimal_digit 1 (omega arith), decimal_digit 2 (omega arith), decimal_digit 5 (omega arith)) refl;
}
