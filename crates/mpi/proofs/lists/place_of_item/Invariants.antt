use Rattle.std.proofs.Common.{◌≡◌, ℕ, ◌<◌, [], false, get_or, map}
use Rattle.std.specs.Prelude.{bytes_eq}
use Rattle.mpi.proofs.lists.place_of_item.Given as goal

abbrev pub invariant-loop-at : goal.invariant-loop-at
invariant-loop-at l = (k : ℕ) → k < l.at → bytes_eq (get_or (map (λ x. x.now) l.parts) k []) l.item ≡ false
