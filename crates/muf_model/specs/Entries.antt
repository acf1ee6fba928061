-- The entries of a dictionary.
use Rattle.std.specs.Prelude.{◌≡◌, ℕ, zero, suc, Bool, true, false, List, [], ◌∷◌, Option, Some, None, if◌then◌else◌, bytes_eq}
use Rattle.std.specs.Ordering.{int_eq}
use Rattle.muf_model.specs.declared.value.MapKey.{MapKey}
use Rattle.muf_model.specs.declared.value.MapKey.TheVariants.{Number, Name}
use Rattle.muf_model.specs.Datum.{Datum, int, text}
use Rattle.muf_model.specs.Measures.{key_below}

-- a key as a value
abbrev pub key_datum : MapKey → Datum
key_datum (Number n) = int n
key_datum (Name t) = text t

-- whether two keys are one
abbrev pub key_same : MapKey → MapKey → Bool
key_same (Number m) (Number n) = int_eq m n
key_same (Number m) (Name t) = false
key_same (Name s) (Number n) = false
key_same (Name s) (Name t) = bytes_eq s t

-- the value of a key
abbrev pub value_of_key : MapKey → List (MapKey × Datum) → Option Datum
value_of_key k [] = None
value_of_key k ((l, x) ∷ es) = if key_same k l then Some x else value_of_key k es

-- the entries with this value of a key, which stands before the first greater key where it is new
abbrev pub with_entry : MapKey → Datum → List (MapKey × Datum) → List (MapKey × Datum)
with_entry k x [] = (k, x) ∷ []
with_entry k x ((l, y) ∷ es) =
    if key_same k l then (k, x) ∷ es
    else (if key_below k l then (k, x) ∷ (l, y) ∷ es else (l, y) ∷ with_entry k x es)

-- a key is below the first of the entries
abbrev pub IsAhead : MapKey → List (MapKey × Datum) → Type 0
IsAhead k [] = Unit {0}
IsAhead k ((l, x) ∷ es) = key_below k l ≡ true

-- each key is below the next one
abbrev pub Rising : List (MapKey × Datum) → Type 0
Rising [] = Unit {0}
Rising ((k, x) ∷ es) = IsAhead k es × Rising es

-- the place of a key, or the one where it belongs
abbrev pub entry_place : MapKey → List (MapKey × Datum) → ℕ
entry_place k [] = zero
entry_place k ((l, x) ∷ es) = if key_same k l then 0 else (if key_below k l then 0 else suc (entry_place k es))

-- whether an entry is there and of this key
abbrev pub has_key : MapKey → Option (MapKey × Datum) → Bool
has_key k (Some e) = key_same k e.0
has_key k None = false

-- the entries without that of a key
abbrev pub without_key : MapKey → List (MapKey × Datum) → List (MapKey × Datum)
without_key k [] = []
without_key k ((l, x) ∷ es) = if key_same k l then es else (l, x) ∷ without_key k es

-- the entries of greater keys
abbrev pub entries_above : MapKey → List (MapKey × Datum) → List (MapKey × Datum)
entries_above k [] = []
entries_above k ((l, x) ∷ es) = if key_below k l then (l, x) ∷ es else entries_above k es

-- pairs as entries, of which those that stand before win
abbrev pub gathered : List (MapKey × Datum) → List (MapKey × Datum)
gathered [] = []
gathered ((k, x) ∷ es) = with_entry k x (gathered es)
