use Rattle.std.proofs.Common.{◌≡◌, take}
use Rattle.muck_prop.proofs.segments.Segments.rest.Given as goal

abbrev pub invariant-loop-segment : goal.invariant-loop-segment
invariant-loop-segment l = l.items.items ≡ take l.segment-index l.rest
