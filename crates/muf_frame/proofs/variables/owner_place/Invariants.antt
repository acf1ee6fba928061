use Rattle.std.proofs.Common.{◌≡◌, ◌≤◌, ◌+◌, ◌-◌, length, map, drop}
use Rattle.muf_frame.specs.inner.Shown.{flat_owned}
use Rattle.muf_frame.specs.inner.Owners.{owner_place}
use Rattle.muf_frame.proofs.variables.owner_place.Given as goal

abbrev pub invariant-loop-at : goal.invariant-loop-at
invariant-loop-at l =
    (l.at ≤ length l.fn.owned)
    × (owner_place l.fn.program.0 (map flat_owned l.fn.owned) ≡ l.at + owner_place l.fn.program.0 (map flat_owned (drop l.at l.fn.owned)))

abbrev pub decreases-loop-at : goal.decreases-loop-at
decreases-loop-at l = length l.fn.owned - l.at
