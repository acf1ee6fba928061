use Rattle.std.proofs.Common.{is_some, ap, sym, subst, ◌∙◌}
use Rattle.std.specs.List.{AllByRecursion}
use Rattle.std.specs.FinMap.{get, remove}
use Rattle.muck_prop.specs.Store.{IsKept}
use Rattle.muck_prop.proofs.Maps.{get_is, removed, kept_removed}
use Rattle.muck_prop.proofs.props.Props.remove.Goals as goal

pub invariant_of-self : goal.invariant_of-self
invariant_of-self c = subst (AllByRecursion IsKept) (sym c.remove.ensures.entries) (kept_removed _ _ c.self.invariant)

pub returns-clause-had : goal.returns-clause-had
returns-clause-had c =
    c.is_some.ensures
    ∙ ap is_some (c.remove.ensures.value ∙ sym (get_is c.path.inside.segments c.self.inside.values.entries) ∙ (λ i. get (c.self.view_is i) (c.path.view_is i)))

pub returns-clause-removed : goal.returns-clause-removed
returns-clause-removed c =
    removed c.path.inside.segments c.self.inside.values.entries c.remove.new.self.entries c.remove.ensures.updates.0
    ∙ (λ i. remove (c.self.view_is i) (c.path.view_is i))
