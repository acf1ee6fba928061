use Rattle.std.proofs.Common.{ap, sym, ◌∙◌}
use Rattle.muck_prop.specs.Store.{is_dir}
use Rattle.muck_prop.proofs.First.{dir_by_first}
use Rattle.muck_prop.proofs.Sequence.{found_below}
use Rattle.muck_prop.proofs.props.Props.is_dir.Goals as goal

pub returns-in-Some : goal.returns-in-Some
returns-in-Some c =
    c.is_below.ensures
    ∙ ap (found_below c.path.inside.segments) c.in-Some.ensures.first
    ∙ sym (dir_by_first c.path.inside.segments c.self.inside.values.entries c.first_from.ensures.ordered)
    ∙ (λ i. is_dir (c.path.view_is i) (c.self.view_is i))

pub returns-in-None : goal.returns-in-None
returns-in-None c =
    ap (found_below c.path.inside.segments) c.in-None.ensures.first
    ∙ sym (dir_by_first c.path.inside.segments c.self.inside.values.entries c.first_from.ensures.ordered)
    ∙ (λ i. is_dir (c.path.view_is i) (c.self.view_is i))
