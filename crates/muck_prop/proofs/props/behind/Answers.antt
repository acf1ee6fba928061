use Rattle.std.proofs.Common.{sym, subst}
use Rattle.muck_prop.specs.Paths.{IsPath}
use Rattle.muck_prop.proofs.Listing.{rest_is_path}
use Rattle.muck_prop.proofs.props.behind.Goals as goal

pub invariant_of-rest : goal.invariant_of-rest
invariant_of-rest c = subst IsPath (sym c.in_ok-segments.ensures) (rest_is_path c.args.depth c.args.path.now c.requires.deeper c.requires.kept)
