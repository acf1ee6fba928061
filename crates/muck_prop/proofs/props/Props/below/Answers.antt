use Rattle.std.proofs.Common.{◌∙◌}
use Rattle.muck_prop.specs.Store.{listed_below}
use Rattle.muck_prop.proofs.Listing.{listed_is}
use Rattle.muck_prop.proofs.props.Props.below.Goals as goal

pub returns : goal.returns
returns c =
    c.in_ok-list.ensures.list
    ∙ listed_is c.dir.inside.segments c.self.inside.values.entries c.in_ok-list.ensures.ordered
    ∙ (λ i. listed_below (c.dir.view_is i) (c.self.view_is i))
