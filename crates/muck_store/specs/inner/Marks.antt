-- Marks at the numbers that were met.
use Rattle.std.specs.Prelude.{◌≡◌, ℕ, ◌<◌, Bool, false, List, length, slice_index_or}
use Rattle.std.specs.List.{count_by}
use Rattle.spec_live.specs.Chain.{has}

-- each mark says whether its number was met, and as many marks are set as were met
pub record IsMarked (marks : List Bool) (met : List ℕ) : Type 0 where
  pub each : (k : ℕ) → k < length marks → slice_index_or marks k false ≡ has k met
  pub count : count_by (λ mark. mark) marks ≡ length met
