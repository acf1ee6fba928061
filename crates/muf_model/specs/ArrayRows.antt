-- What each primitive of lists and dictionaries does.
use Rattle.std.specs.Prelude.{ℕ, suc, ◌+◌, List, [], ◌∷◌, ◌++◌, length, map, take, drop, reverse, nat_lt, if◌then◌else◌, ℤ, pos, negsuc, Option, Some, None}
use Rattle.std.specs.List.{remove}
use Rattle.std.specs.Fmt.{signed_decimal}
use Rattle.muf_model.specs.declared.fault.MufFault.TheVariants.{BadType, BadArgument, TooHeavy}
use Rattle.muf_model.specs.declared.prims.Primitive.{Primitive}
use Rattle.muf_model.specs.declared.prims.Primitive.TheVariants.{ArrayMake, ArrayMakeDict, ArrayCount, ArrayGetItem, ArraySetItem, ArrayInsertItem, ArrayAppendItem, ArrayDelItem, ArrayFirst, ArrayNext, ArrayKeys, ArrayVals, ArrayExplode, ArrayJoin}
use Rattle.muf_model.specs.declared.value.MapKey.{MapKey}
use Rattle.muf_model.specs.declared.value.MapKey.TheVariants.{Number, Name}
use Rattle.muf_model.specs.Datum.{Datum, int, text, object, items, dict, Data, no_data, datum, data_of, data_list, pairs_of, entries_of}
use Rattle.muf_model.specs.Entries.{key_datum, value_of_key, with_entry, without_key, entries_above, gathered}
use Rattle.muf_model.specs.Values.{value_fits}
use Rattle.muf_model.specs.Answer.{PrimitiveEffect, plain, Made, makes, rejects}
use Rattle.muf_model.specs.Texts.{texts_joined}
use Rattle.muf_model.specs.TextRows as textual

-- Keys and entries.

-- the key that a value is
abbrev pub map_key_of : Datum → Option MapKey
map_key_of (int n) = Some (Number n)
map_key_of (text t) = Some (Name t)
map_key_of _ = None

-- values with their places, from n on
abbrev pub values_keyed : ℕ → Data → List (MapKey × Datum)
values_keyed n no_data = []
values_keyed n (datum d ds) = (Number (pos n), d) ∷ values_keyed (suc n) ds

-- the entries of a list, which has the keys from 0 on, and of a dictionary
abbrev pub entries_in : Datum → List (MapKey × Datum)
entries_in (items ds) = values_keyed 0 ds
entries_in (dict ps) = entries_of ps
entries_in _ = []

-- What is taken, the last on the top.

abbrev pub one_held : (Datum → Made) → List Datum → Made
one_held f (a ∷ []) = f a
one_held f _ = rejects BadType

-- of a list or dictionary and a key; no text is a key of a list
abbrev pub at_key : (Datum → MapKey → Made) → Datum → Option MapKey → Made
at_key f (items ds) (Some (Name t)) = rejects BadType
at_key f a (Some k) = f a k
at_key f a None = rejects BadType

abbrev pub held_and_key : (Datum → MapKey → Made) → List Datum → Made
held_and_key f (k ∷ a ∷ []) = at_key f a (map_key_of k)
held_and_key f _ = rejects BadType

abbrev pub item_held_and_key : (Datum → Datum → MapKey → Made) → List Datum → Made
item_held_and_key f (k ∷ a ∷ x ∷ []) = at_key (f x) a (map_key_of k)
item_held_and_key f _ = rejects BadType

-- What is made.

-- a list or dictionary, or the fault of one that is too heavy or nested too deep
abbrev pub valued : Datum → Made
valued d = if value_fits d then makes (d ∷ []) else rejects TooHeavy

-- a value, or 0 for none
abbrev pub value_found : Option Datum → Made
value_found (Some x) = makes (x ∷ [])
value_found None = makes (int (pos 0) ∷ [])

-- the first key and 1, or two 0 for none
abbrev pub first_key : List (MapKey × Datum) → Made
first_key [] = makes (int (pos 0) ∷ int (pos 0) ∷ [])
first_key ((k, x) ∷ es) = makes (int (pos 1) ∷ key_datum k ∷ [])

-- values and their count, which is on the top and the last of them below it
abbrev pub counted_values : List Datum → Made
counted_values ds = makes (int (pos (length ds)) ∷ reverse ds)

-- keys with their values, the last value nearest the top
abbrev pub spread : List (MapKey × Datum) → List Datum
spread [] = []
spread ((k, x) ∷ es) = spread es ++ x ∷ key_datum k ∷ []

-- What each primitive makes of what it takes, the last on the top.

-- the deepest of the values first
abbrev pub list_made : List Datum → Made
list_made (n ∷ xs) = valued (items (data_of (reverse xs)))
list_made [] = rejects BadType

abbrev with_key : Option MapKey → Datum → List (MapKey × Datum) → List (MapKey × Datum)
with_key (Some k) x ps = (k, x) ∷ ps
with_key None x ps = ps

-- the keys with their values, those nearest the top first
abbrev pub paired : List Datum → List (MapKey × Datum)
paired (x ∷ k ∷ below) = with_key (map_key_of k) x (paired below)
paired _ = []

-- of the pairs of one key, the one nearest the top wins
abbrev pub dict_made : List Datum → Made
dict_made (n ∷ xs) = valued (dict (pairs_of (gathered (paired xs))))
dict_made [] = rejects BadType

abbrev pub items_counted : Datum → Made
items_counted a = makes (int (pos (length (entries_in a))) ∷ [])

abbrev pub item_got : Datum → MapKey → Made
item_got a k = value_found (value_of_key k (entries_in a))

-- a value behind the first n of a list, which goes on with what stood there from m on
abbrev put_between : ℕ → ℕ → Datum → List Datum → Made
put_between n m x ds = if nat_lt (length ds) n then rejects BadArgument else valued (items (data_of (take n ds ++ x ∷ drop m ds)))

abbrev pub set_in : Datum → Datum → MapKey → Made
set_in x (items ds) (Number (pos n)) = put_between n (n + 1) x (data_list ds)
set_in x (dict ps) k = valued (dict (pairs_of (with_entry k x (entries_of ps))))
set_in x _ _ = rejects BadArgument

abbrev pub inserted_in : Datum → Datum → MapKey → Made
inserted_in x (items ds) (Number (pos n)) = put_between n n x (data_list ds)
inserted_in x a k = set_in x a k

abbrev pub appended_to : Datum → Datum → Made
appended_to (items ds) x = valued (items (data_of (data_list ds ++ x ∷ [])))
appended_to _ x = rejects BadType

abbrev pub appended : List Datum → Made
appended (a ∷ x ∷ []) = appended_to a x
appended _ = rejects BadType

abbrev pub gone_from : Datum → MapKey → Made
gone_from (items ds) (Number (pos n)) = makes (items (data_of (remove (data_list ds) n)) ∷ [])
gone_from (dict ps) k = makes (dict (pairs_of (without_key k (entries_of ps))) ∷ [])
gone_from a k = makes (a ∷ [])

abbrev pub array_first : Datum → Made
array_first a = first_key (entries_in a)

-- the least key above this one
abbrev pub next_key : Datum → MapKey → Made
next_key a k = first_key (entries_above k (entries_in a))

abbrev pub keys : Datum → Made
keys a = counted_values (map (λ e. key_datum e.0) (entries_in a))

abbrev pub values : Datum → Made
values a = counted_values (map (λ e. e.1) (entries_in a))

abbrev pub exploded : Datum → Made
exploded a = makes (int (pos (length (entries_in a))) ∷ spread (entries_in a))

-- the text of a value that has one; an object's begins with `#`
abbrev pub item_word : Datum → Option (List ℕ)
item_word (text t) = Some t
item_word (int i) = Some (signed_decimal i)
item_word (object d) = Some (35 ∷ signed_decimal d)
item_word _ = None

abbrev pub onto : Option (List ℕ) → Option (List (List ℕ)) → Option (List (List ℕ))
onto (Some t) (Some ts) = Some (t ∷ ts)
onto _ _ = None

-- the texts of values that all have one
abbrev pub words_of : List (MapKey × Datum) → Option (List (List ℕ))
words_of [] = Some []
words_of ((k, x) ∷ es) = onto (item_word x) (words_of es)

abbrev joined_by : List ℕ → Option (List (List ℕ)) → Made
joined_by s (Some ts) = textual.text_within (texts_joined s ts)
joined_by s None = rejects BadType

-- the texts of the values of a list or dictionary, with s between each two
abbrev pub joined_held : List ℕ → Datum → Made
joined_held s a = joined_by s (words_of (entries_in a))

abbrev pub joins : List Datum → Made
joins (text s ∷ a ∷ []) = joined_held s a
joins _ = rejects BadType

abbrev pub array_row : Primitive → Option PrimitiveEffect
array_row ArrayMake = Some (plain list_made)
array_row ArrayMakeDict = Some (plain dict_made)
array_row ArrayCount = Some (plain (one_held items_counted))
array_row ArrayGetItem = Some (plain (held_and_key item_got))
array_row ArraySetItem = Some (plain (item_held_and_key set_in))
array_row ArrayInsertItem = Some (plain (item_held_and_key inserted_in))
array_row ArrayAppendItem = Some (plain appended)
array_row ArrayDelItem = Some (plain (held_and_key gone_from))
array_row ArrayFirst = Some (plain (one_held array_first))
array_row ArrayNext = Some (plain (held_and_key next_key))
array_row ArrayKeys = Some (plain (one_held keys))
array_row ArrayVals = Some (plain (one_held values))
array_row ArrayExplode = Some (plain (one_held exploded))
array_row ArrayJoin = Some (plain joins)
array_row _ = None
