use Rattle.std.proofs.Common.{◌∙◌, sym}
use Rattle.std.specs.FinMap.{entries}
use Rattle.muck_prop.proofs.Maps.{entries_are}
use Rattle.muck_prop.proofs.props.Props.walk.Goals as goal

pub returns : goal.returns
returns c =
    c.new.ensures.all
    ∙ sym (entries_are c.self.inside.values.entries c.new.ensures.ordered)
    ∙ (λ i. entries (c.self.view_is i))
