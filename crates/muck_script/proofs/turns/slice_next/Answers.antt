use Rattle.std.proofs.Common.{◌≡◌, ℤ, cond, sym, ◌∙◌, ap, to_z, of_z, w32, rules}
use Rattle.std.specs.Prelude.{is_some}
use Rattle.spec_events.specs.Steps.{has_claim, is_process_there}
use Rattle.spec_events.specs.Histories.{now, entered, by_porter}
use Rattle.muck_machine.specs.inner.Claims.{slice_event}
use Rattle.muck_machine.specs.declared.world.Sliced.{Sliced}
use Rattle.muck_machine.specs.declared.world.Sliced.TheVariants.{Ran, Lost}
use Rattle.muck_script.proofs.Taking.{no_slice, may_slice, sliced}
use Rattle.muck_script.proofs.turns.slice_next.Goals as goal

pub returns-in-None-clause-some : goal.returns-in-None-clause-some
returns-in-None-clause-some c = ap is_some (sym c.in-None.is ∙ c.claim.ensures.found)

pub returns-in-None-clause-world : goal.returns-in-None-clause-world
returns-in-None-clause-world c = no_slice _ _ (sym c.claim.ensures.found ∙ c.in-None.is) (rw c.in-None.is at c.claim.ensures.step)

pub slice-requires-clause-alive : goal.slice-requires-clause-alive
slice-requires-clause-alive c = (may_slice c.args.world.now _ c.in-Some.pid (sym c.claim.ensures.found ∙ c.in-Some.is) (rw c.in-Some.is at c.claim.ensures.step)).alive

pub slice-requires-clause-claim : goal.slice-requires-clause-claim
slice-requires-clause-claim c =
    let read : to_z w32 (of_z w32 c.in-Some.pid) ≡ c.in-Some.pid = search rules in
    ap (λ (pid : ℤ). has_claim 0 pid (now c.claim.new.self)) read
    ∙ (may_slice c.args.world.now _ c.in-Some.pid (sym c.claim.ensures.found ∙ c.in-Some.is) (rw c.in-Some.is at c.claim.ensures.step)).claim

pub returns-in_ok-slice-in-Some-clause-world : goal.returns-in_ok-slice-in-Some-clause-world
returns-in_ok-slice-in-Some-clause-world c =
    let read : to_z w32 (of_z w32 c.in-Some.pid) ≡ c.in-Some.pid = search rules in
    let how : Sliced = c.in_ok-slice-in-Some.field-0 in
    sliced c.args.world.now c.claim.new.self c.slice.new.self c.in-Some.pid how (sym c.in-Some.ensures.found) c.in-Some.ensures.step
    (c.in_ok-slice-in-Some.ensures.ran ∙ ap (λ (pid : ℤ). cond (is_process_there pid (now c.claim.new.self)) Ran Lost) read)
    (c.in_ok-slice-in-Some.ensures.step ∙ ap (λ (pid : ℤ). entered c.claim.new.self (by_porter (slice_event pid how))) read)
