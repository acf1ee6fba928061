-- What a call of a disk does to the images that a crash at each moment may leave.
use Rattle.std.specs.Prelude.{◌≡◌, ℕ, ◌+◌, ◌<◌, ◌≤◌, max, List, ◌++◌, length, take, drop}

-- the bytes with these written at this place
abbrev pub bytes_written : List ℕ → ℕ → List ℕ → List ℕ
bytes_written old at bytes = take at old ++ bytes ++ drop (at + length bytes) old

-- after a write of n bytes that a crash cuts short: any bytes in the range and past the old end, the same elsewhere
pub record Torn (at n : ℕ) (old new : List ℕ) : Type 0 where
  pub before : take at new ≡ take at old
  pub after : drop (at + n) new ≡ drop (at + n) old
  pub no_shorter : length old ≤ length new
  pub no_longer : length new ≤ max (length old) (at + n)

-- a call that writes nothing
abbrev pub Same : List ℕ → List ℕ → Type 0
Same old new = new ≡ old

-- The past stays, and what comes is what the step may leave of what the last moment left.
pub record Elapses (before now : ℕ) (past images : ℕ → List ℕ → Type 0) (step : List ℕ → List ℕ → Type 0) : Type 0 where
  pub later : before ≤ now
  pub kept : (t : ℕ) (c : List ℕ) → t ≤ before → images t c → past t c
  pub stays : (t : ℕ) (c : List ℕ) → t ≤ before → past t c → images t c
  pub comes : (t : ℕ) (c : List ℕ) → before < t → t ≤ now → images t c → (d : List ℕ) × past before d × step d c

-- a crash leaves this and nothing else
abbrev pub Only : List ℕ → (List ℕ → Type 0) → Type 0
Only file images = (c : List ℕ) → images c → c ≡ file
