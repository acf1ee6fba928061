use Rattle.std.proofs.Common.{◌≡◌, true, refl, sym, ap, ◌∙◌}
use Rattle.muck_model.specs.declared.event.Event.TheVariants.{StopSeen}
use Rattle.spec_events.specs.World.{World}
use Rattle.spec_events.specs.Steps.{is_lawful}
use Rattle.spec_events.specs.Histories.{now}
use Rattle.muck_machine.proofs.Keepings.{keeps_entered, unlawful_dead, lawful_as}
use Rattle.muck_machine.proofs.world.World.stopped.Goals as goal

pub returns-then-self-clause-lawful : goal.returns-then-self-clause-lawful
returns-then-self-clause-lawful c = unlawful_dead c.self.inside.past _ _ _ c.self.invariant c.self.view_is c.if-self.true refl

pub returns-then-not-stopping-clause-lawful : goal.returns-then-not-stopping-clause-lawful
returns-then-not-stopping-clause-lawful c =
    lawful_as c.self.inside.past _ _ _ _ c.self.invariant c.self.view_is c.if-self.false (sym c.if-not-stopping.true ∙ ap (λ (w : World). w.stopping) c.state.view_is)

pub invariant_of-self : goal.invariant_of-self
invariant_of-self c =
    let may : is_lawful (now c.args.self.now) (record { party = c.args.party; event = StopSeen }) ≡ true =
    sym (lawful_as c.self.inside.past _ _ _ (record { party = c.args.party; event = StopSeen }) c.self.invariant c.self.view_is c.if-self.false (sym c.if-not-stopping.false ∙ ap (λ (w : World). w.stopping) c.state.view_is)) in
    keeps_entered c.self.inside.past _ _ _ _ _ c.self.invariant c.self.view_is may refl c.enter.ensures refl

pub returns-clause-lawful : goal.returns-clause-lawful
returns-clause-lawful c = lawful_as c.self.inside.past _ _ _ _ c.self.invariant c.self.view_is c.if-self.false (sym c.if-not-stopping.false ∙ ap (λ (w : World). w.stopping) c.state.view_is)
