-- What a write does.
use Rattle.std.specs.Prelude.{◌≡◌, ℕ, ◌<◌, ◌≤◌, List, [], ◌++◌, length, take, Option, Some, None}
use Rattle.muck_io.specs.Faults.{Rose}
use Rattle.muck_io.specs.declared.sink.Put.{Put}
use Rattle.muck_io.specs.declared.sink.Put.TheVariants.{Bytes, Failed}

-- these bytes were written behind the others
abbrev pub Appends : Option (List ℕ) → Option (List ℕ) → List ℕ → Type 0
Appends None now bytes = Unit {0}
Appends (Some written) now bytes = now ≡ Some (written ++ bytes)

-- a front of these bytes was written
abbrev pub AppendsFront : Option (List ℕ) → Option (List ℕ) → List ℕ → Type 0
AppendsFront written now bytes = (n : ℕ) × Appends written now (take n bytes)

-- one write: what was written before and now, the piece, the answer
abbrev pub HasPut : Option (List ℕ) → Option (List ℕ) → List ℕ → Put → Type 0
HasPut written now bytes (Bytes n) = (n ≤ length bytes) × Appends written now (take n bytes)
HasPut written now bytes Failed = now ≡ written

-- one write and the count of faults: it rises where the write failed, or took nothing of a piece
-- that has bytes, and nowhere else
abbrev pub PutCause : ℕ → ℕ → List ℕ → Put → Type 0
PutCause before now bytes (Bytes n) = (before ≤ now) × (n ≡ 0 → 0 < length bytes → Rose before now) × (0 < n → now ≡ before)
PutCause before now bytes Failed = (before ≤ now) × Rose before now

-- a front that is not all was written without a fault; then a fault came, and nothing more was written
pub record BrokeWriting (K : Type 0) (written : K → Option (List ℕ)) (faults : K → ℕ) (before now : K) (bytes : List ℕ) : Type 0 where
  -- the sink as it stood before the fault
  pub last : K
  -- how many bytes were written
  pub count : ℕ
  pub short : count < length bytes
  pub front : Appends (written before) (written last) (take count bytes)
  pub fine : faults last ≡ faults before
  pub rose : Rose (faults last) (faults now)
  pub still : Appends (written last) (written now) []
