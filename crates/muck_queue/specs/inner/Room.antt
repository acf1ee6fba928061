-- Room for the claims to come.
use Rattle.std.specs.Prelude.{ℕ, suc, ℤ, pos, ◌+◌, ◌≤◌, if◌then◌else◌, List, [], ◌∷◌, length}
use Rattle.muck_queue.specs.declared.claim.Claim.{Claim}
use Rattle.muck_queue.specs.declared.process.Process.{Process}
use Rattle.muck_queue.specs.Queues.{is_claimed}
use Rattle.muck_queue.specs.inner.Numbered.{Rises}

-- how many of these processes nobody has claimed
abbrev pub unclaimed : List Claim → List Process → ℕ
unclaimed cs [] = 0
unclaimed cs (p ∷ ps) = if is_claimed p.number cs then unclaimed cs ps else suc (unclaimed cs ps)

-- What a queue keeps that has room for so many claims: its numbers rise, and beside its claims there is room for one on each
-- process that nobody has claimed. So a claim takes no memory: its room is there since the process was added.
pub record Stands (most : ℕ) (last : ℤ) (cs : List Claim) (ps : List Process) : Type 0 where
  pub numbered : Rises (pos 0) last ps
  pub room : unclaimed cs ps + length cs ≤ most
