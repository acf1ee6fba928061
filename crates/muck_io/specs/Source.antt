-- What a read does.
use Rattle.std.specs.Prelude.{◌≡◌, ℕ, ◌<◌, ◌≤◌, List, [], length, take, drop, Option, Some, None}
use Rattle.muck_io.specs.Faults.{Rose}
use Rattle.muck_io.specs.declared.source.Got.{Got}
use Rattle.muck_io.specs.declared.source.Got.TheVariants.{Bytes, End, Failed}

-- the first n of the bytes that were left stand in the buffer, and the others are left
abbrev pub Gives : Option (List ℕ) → Option (List ℕ) → ℕ → List ℕ → Type 0
Gives None now n buf = Unit {0}
Gives (Some bytes) now n buf = (n ≤ length bytes) × (take n buf ≡ take n bytes) × (now ≡ Some (drop n bytes))

-- nothing is left
abbrev pub IsNothingLeft : Option (List ℕ) → Type 0
IsNothingLeft None = Unit {0}
IsNothingLeft (Some bytes) = bytes ≡ []

-- one read: what was left and is left now, the buffer before and now, the answer
abbrev pub HasRead : Option (List ℕ) → Option (List ℕ) → List ℕ → List ℕ → Got → Type 0
HasRead left now before buf (Bytes n) = (0 < n) × (n ≤ length buf) × Gives left now n buf
HasRead left now before buf End = (0 < length before → IsNothingLeft left) × (now ≡ left)
HasRead left now before buf Failed = now ≡ left

-- one read and the count of faults: it rises where the read failed, and nowhere else
abbrev pub GotCause : ℕ → ℕ → Got → Type 0
GotCause before now (Bytes n) = now ≡ before
GotCause before now End = now ≡ before
GotCause before now Failed = (before ≤ now) × Rose before now

-- what was read is all that was left, or its first `most` bytes
abbrev pub HasReadAll : Option (List ℕ) → Option (List ℕ) → ℕ → List ℕ → Type 0
HasReadAll None now most bytes = length bytes ≤ most
HasReadAll (Some left) now most bytes = (bytes ≡ take most left) × (now ≡ Some (drop most left))

-- at most `most` bytes were taken from the front, and the others are left
abbrev pub TookFront : Option (List ℕ) → Option (List ℕ) → ℕ → Type 0
TookFront None now most = Unit {0}
TookFront (Some left) now most = (n : ℕ) × (n ≤ most) × (n ≤ length left) × (now ≡ Some (drop n left))

-- fewer than `most` bytes were taken without a fault; then a read failed, and nothing more was read
pub record BrokeReading (S : Type 0) (left : S → Option (List ℕ)) (faults : S → ℕ) (before now : S) (most : ℕ) : Type 0 where
  -- the source as it stood before the read that failed
  pub last : S
  -- a bound below `most` on what was taken
  pub bound : ℕ
  pub below : bound < most
  pub front : TookFront (left before) (left last) bound
  pub fine : faults last ≡ faults before
  pub rose : Rose (faults last) (faults now)
  pub still : left now ≡ left last
