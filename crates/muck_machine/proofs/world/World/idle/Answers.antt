use Rattle.std.proofs.Common.{◌≡◌, true, refl, sym, ◌∙◌}
use Rattle.muck_model.specs.declared.event.Event.TheVariants.{Idle}
use Rattle.spec_events.specs.Steps.{is_lawful}
use Rattle.spec_events.specs.Histories.{now}
use Rattle.muck_machine.proofs.Keepings.{keeps_entered, unlawful_dead, lawful_as}
use Rattle.muck_machine.proofs.world.World.idle.Goals as goal

pub returns-then-self-clause-lawful : goal.returns-then-self-clause-lawful
returns-then-self-clause-lawful c = unlawful_dead c.self.inside.past _ _ _ c.self.invariant c.self.view_is c.if-self.true refl

pub returns-then-not-may_idle-clause-lawful : goal.returns-then-not-may_idle-clause-lawful
returns-then-not-may_idle-clause-lawful c =
    lawful_as c.self.inside.past _ _ _ _ c.self.invariant c.self.view_is c.if-self.false (sym c.if-not-may_idle.true ∙ c.may_idle.ensures)

pub invariant_of-self : goal.invariant_of-self
invariant_of-self c =
    let may : is_lawful (now c.args.self.now) (record { party = c.args.party; event = Idle }) ≡ true =
    sym (lawful_as c.self.inside.past _ _ _ (record { party = c.args.party; event = Idle }) c.self.invariant c.self.view_is c.if-self.false (sym c.if-not-may_idle.false ∙ c.may_idle.ensures)) in
    keeps_entered c.self.inside.past _ _ _ _ _ c.self.invariant c.self.view_is may refl c.enter.ensures refl

pub returns-clause-lawful : goal.returns-clause-lawful
returns-clause-lawful c = lawful_as c.self.inside.past _ _ _ _ c.self.invariant c.self.view_is c.if-self.false (sym c.if-not-may_idle.false ∙ c.may_idle.ensures)
