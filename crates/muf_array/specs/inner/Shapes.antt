-- What the primitives of lists and dictionaries take, and what may refuse it.
use Rattle.std.specs.Prelude.{◌≡◌, ◌⊎◌, ℕ, zero, suc, ◌+◌, List, [], ◌∷◌, ◌++◌, Bool, true, false, map, drop, Option, Some, None, slice_get, take, length, nat_lt, if◌then◌else◌, ℤ, pos, negsuc}
use Rattle.std.specs.List.{remove}
use Rattle.std.specs.Option.{option_and_then, unwrap_or}
use Rattle.muf_model.specs.declared.fault.MufFault.{MufFault}
use Rattle.muf_model.specs.declared.fault.MufFault.TheVariants.{BadType, BadArgument, TooHeavy}
use Rattle.muf_model.specs.declared.prims.Primitive.{Primitive}
use Rattle.muf_model.specs.declared.prims.Primitive.TheVariants.{ArrayCount, ArrayFirst, ArrayKeys, ArrayVals, ArrayExplode}
use Rattle.muf_model.specs.declared.value.MapKey.{MapKey}
use Rattle.muf_model.specs.declared.value.MapKey.TheVariants.{Number, Name}
use Rattle.muf_model.specs.Datum.{Datum, items, dict, data_of}
use Rattle.muf_model.specs.Entries.{key_datum}
use Rattle.muf_model.specs.Answer.{Made, makes, rejects}
use Rattle.muf_model.specs.ArrayRows.{map_key_of, values_keyed, entries_in, at_key, valued, set_in, inserted_in, item_word, items_counted, array_first, keys, values, exploded}
use Rattle.muf_array.specs.declared.entries.Part.{Part}
use Rattle.muf_array.specs.declared.entries.Part.TheVariants.{Key, Value}
use Rattle.muf_array.specs.declared.changes.Change.{Change}
use Rattle.muf_array.specs.declared.changes.Change.TheVariants.{Set, Insert}

abbrev pub is_held : Datum → Bool
is_held (items ds) = true
is_held (dict ps) = true
is_held _ = false

-- of a list or dictionary
abbrev pub of_held : (Datum → Made) → Datum → Made
of_held f (items ds) = f (items ds)
of_held f (dict ps) = f (dict ps)
of_held f _ = rejects BadType

-- of a list or dictionary and a key of it
abbrev pub at_held : (Datum → MapKey → Made) → Datum → MapKey → Made
at_held f a k = of_held (λ b. at_key f b (Some k)) a

-- whether it is a list or dictionary that may have a key
abbrev pub may_have : Datum → MapKey → Bool
may_have (items ds) (Number n) = true
may_have (items ds) (Name t) = false
may_have (dict ps) k = true
may_have _ k = false

-- what a primitive makes of a list or dictionary alone
unfoldable pub row_of_held : Primitive → Datum → Made
row_of_held ArrayCount = items_counted
row_of_held ArrayFirst = array_first
row_of_held ArrayKeys = keys
row_of_held ArrayVals = values
row_of_held _ = exploded

-- it puts all entries on the stack
abbrev pub Spreads : Primitive → Type 0
Spreads p = (p ≡ ArrayKeys) ⊎ (p ≡ ArrayVals) ⊎ (p ≡ ArrayExplode)

-- a part of an entry
abbrev pub part_of : Part → MapKey × Datum → Datum
part_of Key = λ e. key_datum e.0
part_of Value = λ e. e.1

abbrev pub values_in : Datum → List Datum
values_in a = map (λ e. e.1) (entries_in a)

-- the entries of a list of these values
abbrev pub listed : List Datum → List (MapKey × Datum)
listed ds = values_keyed 0 (data_of ds)

abbrev pub changed : Change → Datum → Datum → MapKey → Made
changed Set = set_in
changed Insert = inserted_in

-- what a place of a list comes to hold
abbrev pub placed_in : Change → ℕ → Datum → List Datum → List Datum
placed_in Set n x ds = take n ds ++ x ∷ drop (n + 1) ds
placed_in Insert n x ds = take n ds ++ x ∷ drop n ds

-- the place of a number in a list, up to the end of it
abbrev pub place_in : ℤ → List Datum → Option ℕ
place_in (pos n) ds = if nat_lt (length ds) n then None else Some n
place_in (negsuc n) ds = None

-- the place of the value that a number is the key of
abbrev pub index_in : ℤ → List Datum → Option ℕ
index_in (pos n) ds = if nat_lt n (length ds) then Some n else None
index_in (negsuc n) ds = None

-- what a list becomes, by the place
abbrev pub by_place : Change → Datum → List Datum → Option ℕ → Made
by_place c x ds (Some n) = valued (items (data_of (placed_in c n x ds)))
by_place c x ds None = rejects BadArgument

abbrev pub gone_by : List Datum → Option ℕ → List Datum
gone_by ds (Some n) = remove ds n
gone_by ds None = ds

abbrev pub fault_of : Bool → Option MufFault
fault_of true = None
fault_of false = Some TooHeavy

-- the fault of what is refused
abbrev pub refusal : Made → Option MufFault
refusal (makes ds) = None
refusal (rejects f) = Some f

-- the key at a depth
abbrev pub key_in : ℕ → List Datum → Option MapKey
key_in n stack = option_and_then map_key_of (slice_get stack n)

abbrev pub pair_before : Option MapKey → Datum → Option (List (MapKey × Datum)) → Option (List (MapKey × Datum))
pair_before (Some k) x (Some ps) = Some ((k, x) ∷ ps)
pair_before _ x _ = None

-- the text of a value, or the empty one
abbrev pub text_in : Datum → List ℕ
text_in d = unwrap_or (item_word d) []

-- what comes before a text at a place
abbrev pub lead : List ℕ → ℕ → List ℕ
lead s zero = []
lead s (suc n) = s

-- texts with s before each
abbrev pub led : List ℕ → List (List ℕ) → List ℕ
led s [] = []
led s (t ∷ ts) = s ++ (t ++ led s ts)

-- so many keys with their values, those nearest the top first
abbrev pub pairs_in : ℕ → List Datum → Option (List (MapKey × Datum))
pairs_in zero stack = Some []
pairs_in (suc n) (x ∷ k ∷ below) = pair_before (map_key_of k) x (pairs_in n below)
pairs_in (suc n) _ = None

abbrev pub pairs_before : List (MapKey × Datum) → Option (List (MapKey × Datum)) → Option (List (MapKey × Datum))
pairs_before ps (Some qs) = Some (ps ++ qs)
pairs_before ps None = None
