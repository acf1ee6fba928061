-- Numbers of batches, which begin again behind 2 ^ 64 - 1.
use Rattle.std.proofs.Common.{◌≡◌, ℕ, suc, ◌+◌, ◌-◌, ◌<◌, ◌≤◌, ◌%◌, ◌^◌, arith}

pub num : ℕ → ℕ → ℕ
num first i = (first + i) % 2 ^ 64

pub num_zero : (first : ℕ) → first < 2 ^ 64 → num first 0 ≡ first
unfolding num
num_zero first small = omega (arith, small)

pub num_next : (first i : ℕ) → (num first i + 1) % 2 ^ 64 ≡ num first (suc i)
unfolding num
num_next first i = omega arith

pub num_later : (first i : ℕ) → num ((first + 1) % 2 ^ 64) i ≡ num first (suc i)
unfolding num
num_later first i = omega arith

pub far_ahead : (first j i : ℕ) → j ≤ i → i ≤ 2 ^ 63 → (num first i + (2 ^ 64 - num first j)) % 2 ^ 64 ≡ i - j
unfolding num
far_ahead first j i le most = omega (arith, le, most)

pub far_behind : (first j i : ℕ) → i < j → j ≤ 2 ^ 63 → 2 ^ 63 ≤ (num first i + (2 ^ 64 - num first j)) % 2 ^ 64
unfolding num
far_behind first j i lt most = omega (arith, lt, most)

pub num_same : (first j i : ℕ) → i ≤ 2 ^ 63 → j ≤ 2 ^ 63 → num first i ≡ num first j → i ≡ j
unfolding num
num_same first j i im jm e = omega (arith, im, jm, e)
