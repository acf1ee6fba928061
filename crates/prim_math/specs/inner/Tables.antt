-- What the table of the primitives of numbers says of numbers and truths, for any primitive.
use Rattle.std.specs.Prelude.{ℤ, Bool, false}
use Rattle.muf_model.specs.declared.prims.Primitive.{Primitive}
use Rattle.muf_model.specs.NumberRows.{NumberRow, an_int, ints, compares as comparing, truths, number_table}

abbrev pub of_int : NumberRow → ℤ → ℤ
of_int (an_int f) i = f i
of_int _ i = i

abbrev pub of_ints : NumberRow → ℤ → ℤ → ℤ
of_ints (ints f) i j = f i j
of_ints _ i j = i

abbrev pub of_compared : NumberRow → ℤ → ℤ → Bool
of_compared (comparing f) i j = f i j
of_compared _ i j = false

abbrev pub of_truths : NumberRow → Bool → Bool → Bool
of_truths (truths f) a b = f a b
of_truths _ a b = a

abbrev pub int_of : Primitive → ℤ → ℤ
int_of p = of_int (number_table p)

abbrev pub int_of_two : Primitive → ℤ → ℤ → ℤ
int_of_two p = of_ints (number_table p)

abbrev pub compares : Primitive → ℤ → ℤ → Bool
compares p = of_compared (number_table p)

abbrev pub joined : Primitive → Bool → Bool → Bool
joined p = of_truths (number_table p)
