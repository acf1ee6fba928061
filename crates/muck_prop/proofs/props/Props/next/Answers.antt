use Rattle.muck_prop.proofs.Least.{least_child}
use Rattle.muck_prop.proofs.props.Props.next.Goals as goal

pub returns-clause-least : goal.returns-clause-least
returns-clause-least c = least_child _ _ _ _ c.in_ok-child.ensures
