-- Texts as truths, numbers and lists, and what the functions of these give.
use Rattle.std.specs.Prelude.{ℕ, ◌+◌, ◌-◌, ◌/◌, ◌%◌, zero, suc, Bool, true, false, not, ◌&&◌, ◌||◌, ◌==◌, nat_eq, nat_lt, if◌then◌else◌, List, [], ◌∷◌, ◌++◌, map, length, take, drop, reverse, Option, Some, None, option_map, bytes_eq, slice_get, codes, ℤ, pos, negsuc, int_lt, int_le}
use Rattle.std.specs.Char.{to_ascii_lowercase, to_ascii_uppercase}
use Rattle.std.specs.List.{fold, position, slice_split, join_with_byte, starts_with}
use Rattle.std.specs.Option.{unwrap_or, option_map_or}
use Rattle.std.specs.Fmt.{decimal}
use Rattle.std.specs.Ordering.{nat_cmp, int_cmp, is_eq, is_lt, is_gt, is_le, is_ge}
use Rattle.std.specs.declared.cmp.Ordering.{Ordering}
use Rattle.std.specs.Cmp.Lexicographic.{slice_cmp}
use Rattle.std.specs.Int.{w32, int_wrapping_add, int_wrapping_sub, int_wrapping_mul, int_signum}
use Rattle.muck_model.specs.Decimal.{decimal_of}
use Rattle.muck_model.specs.Division.{quotient, remainder, magnitude}
use Rattle.muck_model.specs.Numbers.{minus}
use Rattle.mpi.specs.declared.functions.Function.{Function}
use Rattle.mpi.specs.declared.functions.Function.TheVariants.{Nothing, Xor, Not, Equal, Unequal, Greater, Less, AtLeast, AtMost, Add, Subtract, Multiply, Divide, Modulo, Absolute, Sign, Least, Most, Length, Upper, Lower, Strip, Find, Substitute, Middle, MakeList, Count, Member, Sublist}

-- the argument at a place from 0; one that is left out is empty
abbrev pub nth : ℕ → List (List ℕ) → List ℕ
nth n values = unwrap_or (slice_get values n) []

-- the empty text and `0` are false, all others true
unfoldable pub is_true_text : List ℕ → Bool
is_true_text text = not (bytes_eq text [] || bytes_eq text (codes "0"))

abbrev pub truth_text : Bool → List ℕ
truth_text true = codes "1"
truth_text false = codes "0"

-- digits without the zeros in front of others
unfoldable pub bare_digits : List ℕ → List ℕ
bare_digits [] = []
bare_digits (b ∷ more) = if b == 48 && nat_lt 0 (length more) then bare_digits more else b ∷ more

-- the number that a whole text is: a `-` or none, and digits, in 32 bits
unfoldable pub number_read : List ℕ → Option ℤ
number_read [] = None
number_read (b ∷ more) =
    if b == 45
    then option_map minus (decimal_of 2147483648 (bare_digits more))
    else option_map pos (decimal_of 2147483647 (bare_digits (b ∷ more)))

-- a text that is no number counts as 0
abbrev pub number_or_zero : List ℕ → ℤ
number_or_zero text = unwrap_or (number_read text) (pos 0)

abbrev pub lowered : List ℕ → List ℕ
lowered text = map to_ascii_lowercase text

-- numbers by their size where both are numbers, else texts by their bytes in lower case
abbrev pub order_as : Option ℤ → Option ℤ → List ℕ → List ℕ → Ordering
order_as (Some i) (Some j) x y = int_cmp i j
order_as _ _ x y = slice_cmp nat_cmp (lowered x) (lowered y)

unfoldable pub order_of : List ℕ → List ℕ → Ordering
order_of x y = order_as (number_read x) (number_read y) x y

abbrev pub alike : Bool → Bool → Bool
alike true b = b
alike false b = not b

-- what a function that tests answers, of two texts or of the first
abbrev pub test_of : Function → List ℕ → List ℕ → Bool
test_of Not x y = not (is_true_text x)
test_of Xor x y = not (alike (is_true_text x) (is_true_text y))
test_of Equal x y = is_eq (order_of x y)
test_of Unequal x y = not (is_eq (order_of x y))
test_of Greater x y = is_gt (order_of x y)
test_of Less x y = is_lt (order_of x y)
test_of AtLeast x y = is_ge (order_of x y)
test_of AtMost x y = is_le (order_of x y)
test_of _ x y = false

-- what a function of one or two numbers gives; results wrap to 32 bits
abbrev pub numbers_computed : Function → ℤ → ℤ → ℤ
numbers_computed Subtract i j = int_wrapping_sub w32 i j
numbers_computed Divide i j = quotient i j
numbers_computed Modulo i j = remainder i j
numbers_computed Absolute i j = magnitude i
numbers_computed Sign i j = int_signum i
numbers_computed Least i j = if int_lt j i then j else i
numbers_computed Most i j = if int_lt i j then j else i
numbers_computed _ i j = i

abbrev pub sum_of : List (List ℕ) → ℤ
sum_of values = fold (λ n text. int_wrapping_add w32 n (number_or_zero text)) (pos 0) values

abbrev pub product_of : List (List ℕ) → ℤ
product_of values = fold (λ n text. int_wrapping_mul w32 n (number_or_zero text)) (pos 1) values

-- what a function of numbers gives; sums and products are of all
abbrev pub computed : Function → List (List ℕ) → ℤ
computed Add values = sum_of values
computed Multiply values = product_of values
computed f values = numbers_computed f (number_or_zero (nth 0 values)) (number_or_zero (nth 1 values))

-- without the spaces before it
unfoldable pub past_spaces : List ℕ → List ℕ
past_spaces [] = []
past_spaces (b ∷ more) = if b == 32 then past_spaces more else b ∷ more

-- without the spaces behind it
abbrev pub before_spaces : List ℕ → List ℕ
before_spaces text = reverse (past_spaces (reverse text))

-- without the spaces at both ends
unfoldable pub stripped : List ℕ → List ℕ
stripped text = before_spaces (past_spaces text)

abbrev pub begins_with : List ℕ → List ℕ → Bool
begins_with text front = starts_with nat_eq text front

-- how many bytes stand before the first place where a text stands
unfoldable pub place_in_text : List ℕ → List ℕ → Option ℕ
place_in_text [] text = if length text == 0 then Some 0 else None
place_in_text (b ∷ more) text = if begins_with (b ∷ more) text then Some 0 else option_map suc (place_in_text more text)

-- a place from 1, or 0 where there is none
abbrev pub from_one : Option ℕ → ℕ
from_one place = option_map_or suc place 0

-- the empty text is sought nowhere
abbrev pub found_in : List ℕ → List ℕ → Option ℕ
found_in text [] = None
found_in text (b ∷ more) = Some (from_one (place_in_text text (b ∷ more)))

-- each `old` becomes `new`, from left to right; so many bytes still belong to the last one
unfoldable pub replaced : List ℕ → List ℕ → ℕ → List ℕ → List ℕ
replaced old new left [] = []
replaced old new (suc left) (b ∷ more) = replaced old new left more
replaced old new zero (b ∷ more) =
    if begins_with (b ∷ more) old
    then new ++ replaced old new (length old - 1) more
    else b ∷ replaced old new zero more

abbrev pub text_substituted : List ℕ → List ℕ → List ℕ → List ℕ
text_substituted text [] new = text
text_substituted text (b ∷ more) new = replaced (b ∷ more) new 0 text

-- how far a number is above 0
abbrev pub above_zero : ℤ → ℕ
above_zero (pos n) = n
above_zero (negsuc n) = 0

-- what stands from place p through place q, from 1; places outside are cut
abbrev pub part_between : {A : Type 0} → ℤ → ℤ → List A → List A
part_between p q xs = take (above_zero q - (above_zero p - 1)) (drop (above_zero p - 1) xs)

-- the bytes from place p through place q; there are none unless 1 <= p <= q
abbrev pub bytes_between : List ℕ → ℤ → ℤ → Option (List ℕ)
bytes_between text p q = if int_le (pos 1) p && int_le p q then Some (part_between p q text) else None

-- the second place is the first where it is left out
abbrev pub middle_text : List (List ℕ) → Option (List ℕ)
middle_text values = bytes_between (nth 0 values) (number_or_zero (nth 1 values)) (number_or_zero (unwrap_or (slice_get values 2) (nth 1 values)))

-- the items of a list, between bytes 13; the empty text has none
unfoldable pub items : List ℕ → List (List ℕ)
items [] = []
items (b ∷ more) = slice_split (λ c. c == 13) (b ∷ more)

-- the first place of an item, from 1, or 0
abbrev pub place_of_item : List ℕ → List (List ℕ) → ℕ
place_of_item item parts = from_one (position (λ part. bytes_eq part item) parts)

-- items as a list
abbrev pub values_listed : List (List ℕ) → List ℕ
values_listed values = join_with_byte 13 values

-- the items from place p through place q
abbrev pub sublist : List ℕ → ℤ → ℤ → List ℕ
sublist list p q = values_listed (part_between p q (items list))

-- what a function of texts makes of its arguments; None where they aren't what it takes
abbrev pub function_text : Function → List (List ℕ) → Option (List ℕ)
function_text Nothing values = Some []
function_text Length values = Some (decimal (length (nth 0 values)))
function_text Upper values = Some (map to_ascii_uppercase (nth 0 values))
function_text Lower values = Some (lowered (nth 0 values))
function_text Strip values = Some (stripped (nth 0 values))
function_text Find values = option_map decimal (found_in (nth 0 values) (nth 1 values))
function_text Substitute values = Some (text_substituted (nth 0 values) (nth 1 values) (nth 2 values))
function_text Middle values = middle_text values
function_text MakeList values = Some (values_listed values)
function_text Count values = Some (decimal (length (items (nth 0 values))))
function_text Member values = Some (decimal (place_of_item (nth 1 values) (items (nth 0 values))))
function_text Sublist values = Some (sublist (nth 0 values) (number_or_zero (nth 1 values)) (number_or_zero (nth 2 values)))
function_text _ values = Some []

-- a number from 1 through n, by a random word without its last bit
abbrev pub rolled : ℤ → ℕ → ℤ
rolled n word = pos (1 + (word / 2) % above_zero n)
