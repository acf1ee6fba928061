-- The one order of the tests that every primitive begins with.
use Rattle.std.specs.Prelude.{ℕ, zero, suc, ◌+◌, List, [], ◌∷◌, ◌++◌, length, drop, nat_lt, if◌then◌else◌, Bool, true, ℤ, pos, negsuc, Option, Some, None}
use Rattle.std.specs.Option.{option_or}
use Rattle.muf_model.specs.declared.fault.MufFault.{MufFault}
use Rattle.muf_model.specs.declared.fault.MufFault.TheVariants.{BadType, BadArgument, NoSuchObject}
use Rattle.muf_model.specs.declared.needs.Need.{Need}
use Rattle.muf_model.specs.Datum.{Datum, int, object}
use Rattle.muf_model.specs.Kinds.{kind_of_item, suits}
use Rattle.muf_model.specs.Answer.{too_few}
use Rattle.muf_model.specs.Needs.{Many, Needs}

-- n items above the locked part, or the fault of too few
abbrev pub short : ℕ → ℕ → List Datum → Option MufFault
short zero locked stack = None
short (suc n) locked stack = if nat_lt (length stack) (locked + suc n) then Some (too_few (suc n) stack) else None

-- a list so many times over
abbrev pub times : ℕ → List Need → List Need
times zero each = []
times (suc n) each = each ++ times n each

-- how many the first of these items counts
abbrev pub count_on_top : List Datum → ℕ
count_on_top (int (pos n) ∷ rest) = n
count_on_top _ = 0

-- what each item must be, from the top down: the fixed ones, and those under them that one of these counts
abbrev with_counted : List Need → Option Many → List Datum → List Need
with_counted fixed None stack = fixed
with_counted fixed (Some m) stack = fixed ++ (times (count_on_top (drop m.at stack)) m.each ++ m.under)

abbrev pub wanted : Needs → List Datum → List Need
wanted needs stack = with_counted needs.fixed needs.many stack

-- a count that is negative, where the first of these items counts
abbrev pub miscounted : List Datum → Option MufFault
miscounted (int (negsuc n) ∷ rest) = Some BadArgument
miscounted _ = None

-- fewer items than are needed: first without those that are counted, then with them
abbrev short_of : List Need → Option Many → ℕ → List Datum → Option MufFault
short_of fixed None locked stack = short (length fixed) locked stack
short_of fixed (Some m) locked stack =
    option_or (short (length (fixed ++ m.under)) locked stack)
    (option_or (miscounted (drop m.at stack)) (short (length (with_counted fixed (Some m) stack)) locked stack))

abbrev pub too_short : Needs → ℕ → List Datum → Option MufFault
too_short needs locked stack = short_of needs.fixed needs.many locked stack

-- the first refusal of a test, from the top down
abbrev pub first_refusal : (Need → Datum → Option MufFault) → List Need → List Datum → Option MufFault
first_refusal test [] stack = None
first_refusal test (n ∷ ns) [] = None
first_refusal test (n ∷ ns) (x ∷ xs) = option_or (test n x) (first_refusal test ns xs)

-- an item that isn't of its kind
abbrev pub unfit : Need → Datum → Option MufFault
unfit n x = if suits n.kind (kind_of_item x) then None else Some BadType

-- an object that must be there and isn't
abbrev object_gone : (ℤ → Bool) → Datum → Option MufFault
object_gone there (object d) = if there d then None else Some NoSuchObject
object_gone there _ = None

abbrev pub absent : (ℤ → Bool) → Need → Datum → Option MufFault
absent there n x = if n.there then object_gone there x else None

-- an object that must be near and isn't
abbrev afar : (ℤ → Option MufFault) → Datum → Option MufFault
afar near (object d) = near d
afar near _ = None

abbrev pub distant : (ℤ → Option MufFault) → Need → Datum → Option MufFault
distant near n x = if n.near then afar near x else None

-- The count of the items, the level, their kinds from the top, and the objects that must be there from the top: the first
-- of these tests that refuses. `may` judges a level, and `there` says which objects are.
abbrev pub ladder : ℕ → Needs → (ℕ → Option MufFault) → (ℤ → Bool) → ℕ → List Datum → Option MufFault
ladder level needs may there locked stack =
    option_or (too_short needs locked stack)
    (option_or (may level)
    (option_or (first_refusal unfit (wanted needs stack) stack)
    (first_refusal (absent there) (wanted needs stack) stack)))

-- The objects that must be near, from the top, behind what a primitive asks of its arguments.
abbrev pub nearby : Needs → (ℤ → Option MufFault) → List Datum → Option MufFault
nearby needs near stack = first_refusal (distant near) (wanted needs stack) stack

-- tests that always pass, for what needs no world
abbrev pub any_level : ℕ → Option MufFault
any_level level = None

abbrev pub all_there : ℤ → Bool
all_there d = true
