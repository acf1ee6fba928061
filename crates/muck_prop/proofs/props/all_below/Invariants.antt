use Rattle.std.proofs.Common.{length}
use Rattle.muck_prop.proofs.Listing.{IsListed}
use Rattle.muck_prop.proofs.props.all_below.Given as goal

abbrev pub invariant-loop-path : goal.invariant-loop-path
invariant-loop-path l = IsListed l.dir l.values.entries l.left l.list

abbrev pub decreases-loop-path : goal.decreases-loop-path
decreases-loop-path l = length l.left
