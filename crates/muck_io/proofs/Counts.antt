-- Laws of counts of faults, and of a source that was read whole, for the layers above.
use Rattle.std.proofs.Common.{◌≡◌, ℕ, ◌-◌, ◌^◌, ◌<◌, arith}
use Rattle.muck_io.specs.Faults.{Rose}

-- below its end a count that stands didn't rise
pub stands : (before now : ℕ) → before < 2 ^ 64 - 1 → now ≡ before → Rose before now → ⊥
stands before now below same rose = omega (arith, below, same, rose)
