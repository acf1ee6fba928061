-- Counts of faults that rose.
use Rattle.std.proofs.Common.{ℕ, ◌≤◌, arith}
use Rattle.muck_io.specs.Faults.{Rose}

pub rose_since : (a n m : ℕ) → a ≤ n → Rose n m → Rose a m
rose_since a n m le rose = omega arith

pub rose_on : (a n m : ℕ) → Rose a n → n ≤ m → Rose a m
rose_on a n m rose le = omega arith
