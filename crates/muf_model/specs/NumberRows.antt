-- What each primitive of numbers does. Results wrap to 32 bits.
use Rattle.std.specs.Prelude.{suc, List, [], ◌∷◌, Option, Some, None, Bool, true, false, not, ◌&&◌, ◌||◌, nat_lt, int_lt, int_le, if◌then◌else◌, ℤ, pos, negsuc}
use Rattle.std.specs.Ordering.{int_eq}
use Rattle.std.specs.Int.{w32, cast_signed, int_wrapping_add, int_wrapping_sub, int_wrapping_mul, int_signum, int_bit_and, int_bit_or, int_bit_xor, int_shl, int_shr}
use Rattle.muck_model.specs.Division.{quotient, remainder, magnitude}
use Rattle.muf_model.specs.declared.fault.MufFault.TheVariants.{StackEmpty, BadType}
use Rattle.muf_model.specs.declared.prims.Primitive.{Primitive}
use Rattle.muf_model.specs.declared.prims.Primitive.TheVariants.{Add, Subtract, Multiply, Divide, Modulo, Increment, Decrement, Abs, Sign, BitOr, BitAnd, BitXor, BitShift, Equal, Unequal, Less, Greater, LessEqual, GreaterEqual, Not, And, Or, Xor, ToInt, ToDbref, DbCmp}
use Rattle.muf_model.specs.Datum.{Datum, int, object, variable}
use Rattle.muf_model.specs.Measures.{is_true_item}
use Rattle.muf_model.specs.Answer.{PrimitiveEffect, plain, Made, makes, rejects}
use Rattle.muf_model.specs.StackRows.{truth_item, item_judged}

-- left by a positive number, else right with the sign
abbrev pub shifted : ℤ → ℤ → ℤ
shifted i (pos n) = if nat_lt n 32 then int_shl w32 i n else pos 0
shifted i (negsuc n) = if nat_lt n 31 then int_shr i (suc n) else (if int_lt i (pos 0) then negsuc 0 else pos 0)

abbrev pub unlike : Bool → Bool → Bool
unlike true b = not b
unlike false b = b

-- of one integer
abbrev pub one_int : (ℤ → ℤ) → List Datum → Made
one_int f (int i ∷ []) = makes (int (f i) ∷ [])
one_int f _ = rejects BadType

-- of two integers, the second one on top
abbrev pub two_ints : (ℤ → ℤ → ℤ) → List Datum → Made
two_ints f (int j ∷ int i ∷ []) = makes (int (f i j) ∷ [])
two_ints f _ = rejects BadType

-- of two integers or two objects, by number
abbrev pub compared : (ℤ → ℤ → Bool) → List Datum → Made
compared f (int j ∷ int i ∷ []) = makes (truth_item (f i j) ∷ [])
compared f (object j ∷ object i ∷ []) = makes (truth_item (f i j) ∷ [])
compared f _ = rejects BadType

-- of two truths
abbrev pub two_truths : (Bool → Bool → Bool) → List Datum → Made
two_truths f (y ∷ x ∷ []) = makes (truth_item (f (is_true_item x) (is_true_item y)) ∷ [])
two_truths f _ = rejects StackEmpty

abbrev pub to_integer : List Datum → Made
to_integer (int i ∷ []) = makes (int i ∷ [])
to_integer (object d ∷ []) = makes (int d ∷ [])
to_integer (variable v ∷ []) = makes (int (cast_signed w32 v) ∷ [])
to_integer _ = rejects BadType

abbrev pub to_object : List Datum → Made
to_object (int i ∷ []) = makes (object i ∷ [])
to_object _ = rejects BadType

abbrev pub objects_equal : List Datum → Made
objects_equal (object j ∷ object i ∷ []) = makes (truth_item (int_eq i j) ∷ [])
objects_equal _ = rejects BadType

-- What a primitive of numbers does, by what it takes: an integer, two integers, two integers or objects to compare, two truths, or
-- items as they are. The second of two is on top.
pub data NumberRow : Type 0 where
  an_int : (ℤ → ℤ) → NumberRow
  ints : (ℤ → ℤ → ℤ) → NumberRow
  compares : (ℤ → ℤ → Bool) → NumberRow
  truths : (Bool → Bool → Bool) → NumberRow
  items : (List Datum → Made) → NumberRow
  absent : NumberRow

abbrev pub number_table : Primitive → NumberRow
number_table Add = ints (int_wrapping_add w32)
number_table Subtract = ints (int_wrapping_sub w32)
number_table Multiply = ints (int_wrapping_mul w32)
number_table Divide = ints quotient
number_table Modulo = ints remainder
number_table Increment = an_int (λ i. int_wrapping_add w32 i (pos 1))
number_table Decrement = an_int (λ i. int_wrapping_sub w32 i (pos 1))
number_table Abs = an_int magnitude
number_table Sign = an_int int_signum
number_table BitOr = ints (int_bit_or w32)
number_table BitAnd = ints (int_bit_and w32)
number_table BitXor = ints (int_bit_xor w32)
number_table BitShift = ints shifted
number_table Equal = compares int_eq
number_table Unequal = compares (λ i j. not (int_eq i j))
number_table Less = compares int_lt
number_table Greater = compares (λ i j. int_lt j i)
number_table LessEqual = compares int_le
number_table GreaterEqual = compares (λ i j. int_le j i)
number_table Not = items (item_judged (λ x. not (is_true_item x)))
number_table And = truths (λ a b. a && b)
number_table Or = truths (λ a b. a || b)
number_table Xor = truths unlike
number_table ToInt = items to_integer
number_table ToDbref = items to_object
number_table DbCmp = items objects_equal
number_table _ = absent

abbrev pub number_deed : NumberRow → Option PrimitiveEffect
number_deed (an_int f) = Some (plain (one_int f))
number_deed (ints f) = Some (plain (two_ints f))
number_deed (compares f) = Some (plain (compared f))
number_deed (truths f) = Some (plain (two_truths f))
number_deed (items f) = Some (plain f)
number_deed absent = None

abbrev pub number_row : Primitive → Option PrimitiveEffect
number_row p = number_deed (number_table p)
