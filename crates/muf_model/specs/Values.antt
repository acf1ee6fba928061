-- What holds of each value, and what becomes of a list or dictionary that is to be changed.
use Rattle.std.specs.Prelude.{◌≡◌, ◌+◌, Bool, true, false, ◌&&◌, nat_le, nat_lt, List, Option, Some, None, Result, Ok, Err}
use Rattle.muf_model.specs.declared.size.Size.{Size}
use Rattle.muf_model.specs.declared.size.ValueFault.{ValueFault}
use Rattle.muf_model.specs.declared.size.ValueFault.TheVariants.{TooHeavy, NoMemory}
use Rattle.muf_model.specs.Datum.{Datum, int, text, object, variable, address, lock, items, dict, mark, Data, no_data, datum, Pairs, no_pairs, pair, data_of, entries_of}
use Rattle.muf_model.specs.Measures.{weight, nesting}
use Rattle.muf_model.specs.Entries.{Rising}

-- it isn't too heavy, and not nested too deep
abbrev pub value_fits : Datum → Bool
value_fits d = nat_le (weight d) 65536 && nat_le (nesting d) 64

abbrev mutual
  -- the keys of each dictionary in it rise
  pub KeysRise : Datum → Type 0
  KeysRise (int n) = Unit {0}
  KeysRise (text t) = Unit {0}
  KeysRise (object d) = Unit {0}
  KeysRise (variable v) = Unit {0}
  KeysRise (address program word) = Unit {0}
  KeysRise (lock l) = Unit {0}
  KeysRise (items ds) = RiseInData ds
  KeysRise (dict ps) = Rising (entries_of ps) × RiseInPairs ps
  KeysRise mark = Unit {0}

  pub RiseInData : Data → Type 0
  RiseInData no_data = Unit {0}
  RiseInData (datum d ds) = KeysRise d × RiseInData ds

  pub RiseInPairs : Pairs → Type 0
  RiseInPairs no_pairs = Unit {0}
  RiseInPairs (pair k d ps) = KeysRise d × RiseInPairs ps

-- a value: it isn't too heavy, not nested too deep, and the keys of each dictionary in it rise
pub record IsValue (d : Datum) : Type 0 where
  pub fitting : value_fits d ≡ true
  pub rising : KeysRise d

-- a list or dictionary of values of this size isn't too heavy, and not nested too deep
abbrev pub size_fits : Size → Bool
size_fits size = nat_lt size.weight 65536 && nat_lt size.nesting 64

-- a list or dictionary whose values weigh so much together, and of which the deepest is so deep
pub record IsSized (d : Datum) (size : Size) : Type 0 where
  pub weighs : weight d ≡ 1 + size.weight
  pub nests : nesting d ≡ 1 + size.nesting
  pub is_value : IsValue d

-- the size of a list, where that fits
abbrev pub HasSize : List Datum → Option Size → Type 0
HasSize ds (Some size) = IsSized (items (data_of ds)) size
HasSize ds None = value_fits (items (data_of ds)) ≡ false

-- What is made: this, or nothing where it doesn't fit.
abbrev pub Makes : {X : Type 0} → (X → Datum) → X → Option X → Type 0
Makes whole wanted (Some made) = (value_fits (whole wanted) ≡ true) × (made ≡ wanted)
Makes whole wanted None = value_fits (whole wanted) ≡ false

-- What becomes of what was: what is wanted, where that fits; else, and where memory was wanted, nothing has changed.
abbrev pub Becomes : {X : Type 0} {U : Type 0} → (X → Datum) → X → X → X → Result U ValueFault → Type 0
Becomes whole wanted old new (Ok _) = (value_fits (whole wanted) ≡ true) × (new ≡ wanted)
Becomes whole wanted old new (Err TooHeavy) = (value_fits (whole wanted) ≡ false) × (new ≡ old)
Becomes whole wanted old new (Err NoMemory) = (value_fits (whole wanted) ≡ true) × (new ≡ old)
