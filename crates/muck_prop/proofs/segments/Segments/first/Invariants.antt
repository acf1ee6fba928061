use Rattle.std.proofs.Common.{◌≡◌, take}
use Rattle.muck_prop.proofs.segments.Segments.first.Given as goal

abbrev pub invariant-loop-segment : goal.invariant-loop-segment
invariant-loop-segment l = l.items.items ≡ take l.segment-index l.segment-items
