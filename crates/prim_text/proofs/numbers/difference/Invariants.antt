use Rattle.std.proofs.Common.{◌≡◌, ◌≤◌, ◌-◌, length, drop}
use Rattle.muf_model.specs.Texts.{difference}
use Rattle.prim_text.proofs.numbers.difference.Given as goal

abbrev pub invariant-loop-at : goal.invariant-loop-at
invariant-loop-at l =
    (l.at ≤ length l.first)
    × (l.at ≤ length l.second)
    × (difference (drop l.at l.first) (drop l.at l.second) ≡ difference l.first l.second)

abbrev pub decreases-loop-at : goal.decreases-loop-at
decreases-loop-at l = length l.first - l.at
