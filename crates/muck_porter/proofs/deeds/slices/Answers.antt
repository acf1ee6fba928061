use Rattle.std.proofs.Common.{◌≡◌, ℤ, to_z, of_z, w32, rules, ap, ◌∙◌}
use Rattle.spec_events.specs.Steps.{has_claim}
use Rattle.spec_events.specs.Histories.{now, entered, by_porter}
use Rattle.muck_work.specs.inner.Claims.{slice_event}
use Rattle.muck_porter.proofs.InRounds.{sliced_as, untimed_slice}
use Rattle.muck_porter.proofs.deeds.slices.Goals as goal

pub slice-requires-clause-claim : goal.slice-requires-clause-claim
slice-requires-clause-claim c =
    let read : to_z w32 (of_z w32 c.args.pid) ≡ c.args.pid = search rules in
    ap (λ (pid : ℤ). has_claim 0 pid (now c.args.world.now)) read ∙ c.requires.claim

pub returns-in-Ok : goal.returns-in-Ok
returns-in-Ok c =
    let read : to_z w32 (of_z w32 c.args.pid) ≡ c.args.pid = search rules in (
      slice_event c.args.pid c.in-Ok.field-0,
      c.in-Ok.ensures.step ∙ ap (λ (pid : ℤ). entered c.args.world.now (by_porter (slice_event pid c.in-Ok.field-0))) read,
      sliced_as c.args.pid c.in-Ok.field-0,
      untimed_slice c.args.pid c.in-Ok.field-0,
    )
