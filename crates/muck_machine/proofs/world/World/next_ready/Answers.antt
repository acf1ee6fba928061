use Rattle.std.proofs.Common.{◌≡◌, None, Some, sym, ◌∙◌, ap, rules}
use Rattle.std.proofs.lemmas.Bool.{cond-true, cond-false}
use Rattle.std.specs.Option.{option_map}
use Rattle.spec_live.specs.Connections.{Connection}
use Rattle.spec_events.specs.World.{World}
use Rattle.muck_machine.proofs.Keepings.{dead_seen, next_dead, line_chosen, next_seen}
use Rattle.muck_machine.proofs.world.World.next_ready.Goals as goal

pub returns-then-self : goal.returns-then-self
returns-then-self c = next_dead _ (dead_seen c.self.inside.past _ _ c.self.invariant c.self.view_is ∙ c.if-self.true)

pub returns-then-state : goal.returns-then-state
returns-then-state c = next_seen c.self.inside.past _ _ None c.self.invariant c.self.view_is c.if-self.false (sym (cond-true _ _ _ c.if-state.true) ∙ ap line_chosen c.state.view_is)

pub returns-in_err-first_free : goal.returns-in_err-first_free
returns-in_err-first_free c =
    let none : c.from_residual.result ≡ None = search rules in
    let on = sym (ap (λ (w : World). w.stopping) c.state.view_is) ∙ c.if-state.false in
    none ∙ next_seen c.self.inside.past _ _ None c.self.invariant c.self.view_is c.if-self.false
    (ap (option_map (λ (x : Connection). x.number)) c.in_err-first_free.ensures ∙ sym (cond-false _ _ _ on))

pub returns : goal.returns
returns c =
    let on = sym (ap (λ (w : World). w.stopping) c.state.view_is) ∙ c.if-state.false in
    next_seen c.self.inside.past _ _ _ c.self.invariant c.self.view_is c.if-self.false
    (ap (λ n. Some n) c.number.ensures ∙ ap (option_map (λ (x : Connection). x.number)) c.in_ok-first_free.ensures ∙ sym (cond-false _ _ _ on))
