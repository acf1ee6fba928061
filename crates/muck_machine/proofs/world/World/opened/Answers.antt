use Rattle.std.proofs.Common.{refl, sym, ◌∙◌}
use Rattle.muck_laws.proofs.Results.{on_ok_as}
use Rattle.muck_turns.specs.contracts.state.State as state
use Rattle.muck_machine.proofs.Keepings.{keeps_concluded}
use Rattle.muck_machine.proofs.Taken.{opened_so}
use Rattle.muck_machine.proofs.world.World.opened.Goals as goal

pub invariant_of-self : goal.invariant_of-self
invariant_of-self c =
    keeps_concluded c.self.inside.past _ _ _ _ _ c.open-done.result c.conclude.result c.self.invariant c.self.view_is (sym c.may_open.ensures ∙ c.if-not-may_open.false) refl
    (on_ok_as c.open-done.result _ _ (λ e. opened_so c.args.d (state.the_view c.state.inside) _ _ e c.state.view_is) c.open-done.ensures.ok) c.conclude.ensures.same c.conclude.ensures.past

pub invariant_of-self-2 : goal.invariant_of-self-2
invariant_of-self-2 c =
    keeps_concluded c.self.inside.past _ _ _ _ _ c.open-done.result c.conclude.result c.self.invariant c.self.view_is (sym c.may_open.ensures ∙ c.if-not-may_open.false) refl
    (on_ok_as c.open-done.result _ _ (λ e. opened_so c.args.d (state.the_view c.state.inside) _ _ e c.state.view_is) c.open-done.ensures.ok) c.conclude.ensures.same c.conclude.ensures.past
