use Rattle.std.proofs.Common.{refl, sym, ◌∙◌}
use Rattle.muck_machine.proofs.Keepings.{keeps_concluded}
use Rattle.muck_machine.proofs.world.World.input.Goals as goal

pub invariant_of-self : goal.invariant_of-self
invariant_of-self c =
    keeps_concluded c.self.inside.past _ _ _ _ _ c.hear-done.result c.conclude.result c.self.invariant c.self.view_is (sym (c.may_hear.ensures c.args.line) ∙ c.if-not-may_hear.false) refl c.hear-done.ensures c.conclude.ensures.same c.conclude.ensures.past

pub invariant_of-self-2 : goal.invariant_of-self-2
invariant_of-self-2 c =
    keeps_concluded c.self.inside.past _ _ _ _ _ c.hear-done.result c.conclude.result c.self.invariant c.self.view_is (sym (c.may_hear.ensures c.args.line) ∙ c.if-not-may_hear.false) refl c.hear-done.ensures c.conclude.ensures.same c.conclude.ensures.past
