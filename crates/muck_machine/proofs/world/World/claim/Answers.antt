use Rattle.std.proofs.Common.{◌≡◌, sym, ◌∙◌, ap, None, Some, refl, to_z, of_z, w32, rules}
use Rattle.std.proofs.lemmas.Bool.{cond-true, cond-false}
use Rattle.muck_queue.specs.Queues.{claimed}
use Rattle.spec_events.specs.World.{on_queue}
use Rattle.spec_events.specs.Steps.{next_process}
use Rattle.spec_events.specs.Histories.{now}
use Rattle.spec_events.proofs.Claims.{claim_lawful}
use Rattle.muck_turns.specs.contracts.state.State as state
use Rattle.muck_machine.proofs.Keepings.{keeps_entered, dead_seen, sound_seen, process_dead, process_chosen, process_seen}
use Rattle.muck_machine.proofs.Taken.{claimed_so}
use Rattle.muck_machine.proofs.world.World.claim.Goals as goal
use Rattle.muck_machine.proofs.world.World.claim.Goals.{After-enter}

pub returns-then-self-clause-found : goal.returns-then-self-clause-found
returns-then-self-clause-found c = process_dead _ (dead_seen c.self.inside.past _ _ c.self.invariant c.self.view_is ∙ c.if-self.true)

pub returns-then-state-clause-found : goal.returns-then-state-clause-found
returns-then-state-clause-found c = process_seen c.self.inside.past _ _ None c.self.invariant c.self.view_is c.if-self.false (sym (cond-true _ _ _ c.if-state.true) ∙ ap process_chosen c.state.view_is)

pub returns-in_err-pid-clause-found : goal.returns-in_err-pid-clause-found
returns-in_err-pid-clause-found c =
    let none : c.from_residual.result ≡ None = search rules in
    none ∙ process_seen c.self.inside.past _ _ None c.self.invariant c.self.view_is c.if-self.false (c.in_err-pid.ensures.number ∙ sym (cond-false _ _ _ c.if-state.false) ∙ ap process_chosen c.state.view_is)

-- the number fits
read_back : (c : After-enter) → to_z w32 (of_z w32 c.in_ok-pid.pid) ≡ c.in_ok-pid.pid
read_back c = search rules

-- it is the choice of the world as it was
chosen : (c : After-enter) → Some (to_z w32 (of_z w32 c.in_ok-pid.pid)) ≡ next_process (now c.args.self.now)
chosen c = ap (λ pid. Some pid) (read_back c) ∙ process_seen c.self.inside.past _ _ _ c.self.invariant c.self.view_is c.if-self.false (c.in_ok-pid.ensures.number ∙ sym (cond-false _ _ _ c.if-state.false) ∙ ap process_chosen c.state.view_is)

pub invariant_of-self-2 : goal.invariant_of-self-2
invariant_of-self-2 c =
    let alive = dead_seen c.self.inside.past _ _ c.self.invariant c.self.view_is ∙ c.if-self.false in
    let sound = sound_seen c.self.inside.past _ _ c.self.invariant c.self.view_is alive in
    keeps_entered c.self.inside.past _ _ _ _ _ c.self.invariant c.self.view_is (claim_lawful (now c.args.self.now) c.args.party _ sound (sym (chosen c))) refl c.enter.ensures
    (claimed_so c.in_ok-pid.pid c.args.party (state.the_view c.state.inside) _ _ c.in_ok-pid.ensures.state c.state.view_is ∙ ap (λ pid. on_queue (claimed pid c.args.party) c.self.inside.state) (sym (read_back c)))

pub returns-clause-found : goal.returns-clause-found
returns-clause-found c = chosen c
