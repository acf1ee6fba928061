use Rattle.std.proofs.Common.{refl, ◌∙◌, ap}
use Rattle.muck_model.specs.declared.event.Event.TheVariants.{Input}
use Rattle.spec_events.specs.Steps.{is_allowed}
use Rattle.muck_turns.specs.contracts.state.State as state
use Rattle.muck_machine.proofs.Keepings.{unlawful_dead, lawful_as}
use Rattle.muck_machine.proofs.Coming.{no_line_comes, a_line_comes, nobody_is_there}
use Rattle.muck_machine.proofs.world.World.may_hear.Goals as goal

pub returns-then-self : goal.returns-then-self
returns-then-self c = λ line. unlawful_dead c.self.inside.past _ _ _ c.self.invariant c.self.view_is c.if-self.true refl

pub returns-then-state : goal.returns-then-state
returns-then-state c = λ line.
    lawful_as c.self.inside.past _ _ _ _ c.self.invariant c.self.view_is c.if-self.false
    (no_line_comes (state.the_view c.state.inside) c.args.d line c.if-state.true ∙ ap (λ w. is_allowed w 0 (Input c.args.d line)) c.state.view_is)

pub returns-in-Some : goal.returns-in-Some
returns-in-Some c = λ line.
    lawful_as c.self.inside.past _ _ _ _ c.self.invariant c.self.view_is c.if-self.false
    (c.takes_line.ensures ∙ a_line_comes (state.the_view c.state.inside) c.args.d line _ c.if-state.false c.in-Some.ensures ∙ ap (λ w. is_allowed w 0 (Input c.args.d line)) c.state.view_is)

pub returns-in-None : goal.returns-in-None
returns-in-None c = λ line.
    lawful_as c.self.inside.past _ _ _ _ c.self.invariant c.self.view_is c.if-self.false
    (nobody_is_there (state.the_view c.state.inside) c.args.d line c.in-None.ensures ∙ ap (λ w. is_allowed w 0 (Input c.args.d line)) c.state.view_is)
