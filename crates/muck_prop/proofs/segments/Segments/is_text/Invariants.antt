use Rattle.std.proofs.Common.{◌≡◌, length}
use Rattle.muck_prop.specs.Order.{path_eq}
use Rattle.muck_prop.specs.Paths.{segments_of}
use Rattle.muck_prop.proofs.segments.Segments.is_text.Given as goal

abbrev pub invariant-loop-left : goal.invariant-loop-left
invariant-loop-left l = path_eq l.rest (segments_of l.left) ≡ path_eq l.self (segments_of l.text)

abbrev pub decreases-loop-left : goal.decreases-loop-left
decreases-loop-left l = length l.left
