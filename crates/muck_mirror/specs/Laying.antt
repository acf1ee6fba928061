-- The world that a mirror holds, which is that of a store, and a batch laid over it.
use Rattle.std.specs.Prelude.{ℕ, All, List, Option, option_and_then}
use Rattle.muck_codec.specs.inner.Stored.{IsStored}
use Rattle.muck_codec.specs.Batches.{whole_batch}
use Rattle.muck_log.specs.World.{StoredWorld, IsFine, laid_over, batch_if}

-- the world with the bytes of a batch of this version laid over it, or none where they are no batch to their end, or don't leave
-- a consistent world with every value within its limits
unfoldable pub laid_in : ℕ → List ℕ → StoredWorld → Option StoredWorld
laid_in version payload w = option_and_then (λ b. laid_over b w) (batch_if (whole_batch version payload))

-- a consistent world with every value within its limits, of which each record has a spelling
pub record IsSound (w : StoredWorld) : Type 0 where
  pub fine : IsFine w
  pub stored : All IsStored w.objects
