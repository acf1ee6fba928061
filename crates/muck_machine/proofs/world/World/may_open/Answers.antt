use Rattle.std.proofs.Common.{refl, ◌∙◌, ap, length}
use Rattle.std.specs.Prelude.{nat_lt}
use Rattle.muck_model.specs.declared.event.Event.TheVariants.{Opened}
use Rattle.spec_events.specs.Steps.{is_allowed}
use Rattle.muck_turns.specs.contracts.state.State as state
use Rattle.muck_machine.proofs.Keepings.{unlawful_dead, lawful_as}
use Rattle.muck_machine.proofs.Coming.{none_comes, one_is_there, one_comes}
use Rattle.muck_machine.proofs.world.World.may_open.Goals as goal

pub returns-then-self : goal.returns-then-self
returns-then-self c = unlawful_dead c.self.inside.past _ _ _ c.self.invariant c.self.view_is c.if-self.true refl

pub returns-then-state : goal.returns-then-state
returns-then-state c =
    lawful_as c.self.inside.past _ _ _ _ c.self.invariant c.self.view_is c.if-self.false
    (none_comes (state.the_view c.state.inside) c.args.d c.if-state.true ∙ ap (λ w. is_allowed w 0 (Opened c.args.d)) c.state.view_is)

pub returns-in-Some : goal.returns-in-Some
returns-in-Some c =
    lawful_as c.self.inside.past _ _ _ _ c.self.invariant c.self.view_is c.if-self.false
    (one_is_there (state.the_view c.state.inside) c.args.d _ c.in-Some.ensures ∙ ap (λ w. is_allowed w 0 (Opened c.args.d)) c.state.view_is)

pub returns-in-None : goal.returns-in-None
returns-in-None c =
    lawful_as c.self.inside.past _ _ _ _ c.self.invariant c.self.view_is c.if-self.false
    (one_comes (state.the_view c.state.inside) c.args.d _ c.if-state.false c.in-None.ensures (ap (λ cs. nat_lt (length cs) 256) c.connections.ensures) ∙ ap (λ w. is_allowed w 0 (Opened c.args.d)) c.state.view_is)
