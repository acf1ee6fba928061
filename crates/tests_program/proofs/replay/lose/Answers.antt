use Rattle.std.proofs.Common.{◌≡◌, sym, ◌∙◌, ap, to_z, of_z, w32, rules}
use Rattle.muck_model.specs.declared.event.Event.TheVariants.{Slice}
use Rattle.spec_events.specs.Steps.{has_claim, is_lawful}
use Rattle.spec_events.specs.Histories.{now}
use Rattle.muck_machine.proofs.Choosing.{claimed_may_run}
use Rattle.muck_script.proofs.Taking.{lawful_runs}
use Rattle.tests_program.proofs.Losing.{claim_stays, life_stays}
use Rattle.tests_program.proofs.replay.lose.Goals as goal

pub slice-requires-clause-alive : goal.slice-requires-clause-alive
slice-requires-clause-alive c =
    life_stays c.claim.new.self c.close.new.world c.args.d _ c.in_ok-close.ensures.step
    (lawful_runs 3 (now c.claim.new.self) c.in-Some.pid
    (ap (λ h. is_lawful (now h) (record { party = 3; event = Slice c.in-Some.pid })) c.in-Some.ensures.step ∙ claimed_may_run c.args.world.now 3 c.in-Some.pid (sym c.in-Some.ensures.found))).alive

pub slice-requires-clause-claim : goal.slice-requires-clause-claim
slice-requires-clause-claim c =
    let back : to_z w32 (of_z w32 c.in-Some.pid) ≡ c.in-Some.pid = search rules in
    ap (λ pid. has_claim 3 pid (now c.close.new.world)) back
    ∙ claim_stays c.claim.new.self c.close.new.world c.args.d 3 c.in-Some.pid _ c.in_ok-close.ensures.step
    (lawful_runs 3 (now c.claim.new.self) c.in-Some.pid
    (ap (λ h. is_lawful (now h) (record { party = 3; event = Slice c.in-Some.pid })) c.in-Some.ensures.step ∙ claimed_may_run c.args.world.now 3 c.in-Some.pid (sym c.in-Some.ensures.found))).claim
