-- Literal rows: which bytes an image of a disk in memory has.
use Rattle.std.proofs.Common.{◌≡◌, [], ◌∷◌, refl}
use Rattle.muck_disk.specs.inner.Replay.{torn_to}

-- a write of three bytes from place 1 on over a file of two, of which the image keeps none, one, two or five past the end
pub record Rows : Type 0 where
  pub none : torn_to 2 5 (1 ∷ 2 ∷ []) 1 3 ≡ 1 ∷ 5 ∷ []
  pub one : torn_to 3 5 (1 ∷ 2 ∷ []) 1 3 ≡ 1 ∷ 5 ∷ 5 ∷ []
  pub two : torn_to 4 5 (1 ∷ 2 ∷ []) 1 3 ≡ 1 ∷ 5 ∷ 5 ∷ 5 ∷ []
  pub five : torn_to 7 5 (1 ∷ 2 ∷ []) 1 3 ≡ 1 ∷ 5 ∷ 5 ∷ 5 ∷ []
  -- within the file the rest stays
  pub within : torn_to 4 5 (1 ∷ 2 ∷ 3 ∷ 4 ∷ []) 1 2 ≡ 1 ∷ 5 ∷ 5 ∷ 4 ∷ []
  -- behind what the image has nothing is written
  pub behind : torn_to 2 5 (1 ∷ 2 ∷ []) 2 3 ≡ 1 ∷ 2 ∷ []

pub rows : Rows
rows = record { none = refl; one = refl; two = refl; five = refl; within = refl; behind = refl }
