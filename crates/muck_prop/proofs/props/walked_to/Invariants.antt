use Rattle.std.proofs.Common.{◌≡◌, length}
use Rattle.std.specs.Map.{lookup}
use Rattle.muck_prop.specs.Order.{path_eq}
use Rattle.muck_prop.specs.Paths.{segments_of}
use Rattle.muck_prop.proofs.props.walked_to.Given as goal

abbrev pub invariant-loop-path : goal.invariant-loop-path
invariant-loop-path l = lookup (λ path. path_eq path (segments_of l.text)) l.left ≡ lookup (λ path. path_eq path (segments_of l.text)) l.values.entries

abbrev pub decreases-loop-path : goal.decreases-loop-path
decreases-loop-path l = length l.left
