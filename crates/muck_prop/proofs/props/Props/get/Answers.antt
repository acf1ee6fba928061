use Rattle.std.proofs.Common.{◌≡◌, false, sym, ◌∙◌}
use Rattle.std.specs.FinMap.{get}
use Rattle.muck_laws.proofs.Options.{on_some}
use Rattle.muck_prop.specs.Store.{is_nothing}
use Rattle.muck_prop.proofs.Maps.{get_is, found_is_kept}
use Rattle.muck_prop.proofs.props.Props.get.Goals as goal

pub returns-clause-value : goal.returns-clause-value
returns-clause-value c = c.searched.ensures ∙ sym (get_is c.path.inside.segments c.self.inside.values.entries) ∙ (λ i. get (c.self.view_is i) (c.path.view_is i))

pub returns-clause-something : goal.returns-clause-something
returns-clause-something c = on_some c.searched.result (λ x. x.now) (λ v. is_nothing v ≡ false) _ c.searched.ensures (found_is_kept _ _ c.self.invariant)
