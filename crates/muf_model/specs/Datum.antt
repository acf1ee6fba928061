-- What a value is.
use Rattle.std.specs.Prelude.{ℕ, List, [], ◌∷◌, ℤ}
use Rattle.muck_model.specs.declared.lock.Lock.{Lock}
use Rattle.muf_model.specs.declared.value.MapKey.{MapKey}

mutual
  pub data Datum : Type 0 where
    int : ℤ → Datum
    text : List ℕ → Datum
    object : ℤ → Datum
    variable : ℕ → Datum
    -- the address of a word, by the number of its program and its own
    address : ℤ → ℕ → Datum
    lock : Lock → Datum
    items : Data → Datum
    dict : Pairs → Datum
    mark : Datum

  -- the values of a list
  pub data Data : Type 0 where
    no_data : Data
    datum : Datum → Data → Data

  -- the pairs of a dictionary
  pub data Pairs : Type 0 where
    no_pairs : Pairs
    pair : MapKey → Datum → Pairs → Pairs

abbrev pub data_of : List Datum → Data
data_of [] = no_data
data_of (d ∷ ds) = datum d (data_of ds)

abbrev pub data_list : Data → List Datum
data_list no_data = []
data_list (datum d ds) = d ∷ data_list ds

abbrev pub pairs_of : List (MapKey × Datum) → Pairs
pairs_of [] = no_pairs
pairs_of ((k, d) ∷ ps) = pair k d (pairs_of ps)

abbrev pub entries_of : Pairs → List (MapKey × Datum)
entries_of no_pairs = []
entries_of (pair k d ps) = (k, d) ∷ entries_of ps
