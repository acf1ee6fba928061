use Rattle.std.proofs.Common.{◌≡◌, ℤ, cond, sym, ◌∙◌, ap, to_z, of_z, w32, rules}
use Rattle.std.specs.Prelude.{is_some}
use Rattle.spec_events.specs.Steps.{has_claim, is_process_there}
use Rattle.spec_events.specs.Histories.{now, entered, by_porter}
use Rattle.muck_script.specs.inner.Claims.{slice_event}
use Rattle.muck_script.specs.declared.Sliced.{Sliced}
use Rattle.muck_script.specs.declared.Sliced.TheVariants.{Ran, Lost}
use Rattle.muck_script.proofs.Taking.{no_slice, may_slice, sliced}
use Rattle.spec_views.specs.Views.{views_of}
use Rattle.muck_debugging.proofs.Watched.{sees_as, sees_none, nothing_sliced, views_sliced}
use Rattle.muck_debugging.proofs.turns.slice_next.Goals as goal

pub returns-in-None-clause-some : goal.returns-in-None-clause-some
returns-in-None-clause-some g c = ap is_some (sym c.in-None.is ∙ c.claim.ensures.found)

pub returns-in-None-clause-world : goal.returns-in-None-clause-world
returns-in-None-clause-world g c = no_slice _ _ (sym c.claim.ensures.found ∙ c.in-None.is) (rw c.in-None.is at c.claim.ensures.step)

pub slice_seen-requires-clause-alive : goal.slice_seen-requires-clause-alive
slice_seen-requires-clause-alive g c = (may_slice c.args.world.now _ c.in-Some.pid (sym c.claim.ensures.found ∙ c.in-Some.is) (rw c.in-Some.is at c.claim.ensures.step)).alive

pub slice_seen-requires-clause-claim : goal.slice_seen-requires-clause-claim
slice_seen-requires-clause-claim g c =
    let read : to_z w32 (of_z w32 c.in-Some.pid) ≡ c.in-Some.pid = search rules in
    ap (λ (pid : ℤ). has_claim 0 pid (now c.claim.new.self)) read
    ∙ (may_slice c.args.world.now _ c.in-Some.pid (sym c.claim.ensures.found ∙ c.in-Some.is) (rw c.in-Some.is at c.claim.ensures.step)).claim

pub returns-in_ok-slice_seen-in-Some-clause-world : goal.returns-in_ok-slice_seen-in-Some-clause-world
returns-in_ok-slice_seen-in-Some-clause-world g c =
    let read : to_z w32 (of_z w32 c.in-Some.pid) ≡ c.in-Some.pid = search rules in
    let how : Sliced = c.in_ok-slice_seen-in-Some.field-0 in
    sliced c.args.world.now c.claim.new.self c.slice_seen.new.self c.in-Some.pid how (sym c.in-Some.ensures.found) c.in-Some.ensures.step
    (c.in_ok-slice_seen-in-Some.ensures.ran ∙ ap (λ (pid : ℤ). cond (is_process_there pid (now c.claim.new.self)) Ran Lost) read)
    (c.in_ok-slice_seen-in-Some.ensures.step ∙ ap (λ (pid : ℤ). entered c.claim.new.self (by_porter (slice_event pid how))) read)

pub returns-in-None-clause-seen : goal.returns-in-None-clause-seen
returns-in-None-clause-seen g c = sees_none g.W.Watch.tells _ _ (nothing_sliced _ (sym c.claim.ensures.found ∙ c.in-None.is))

pub returns-in_ok-slice_seen-in-Some-clause-seen : goal.returns-in_ok-slice_seen-in-Some-clause-seen
returns-in_ok-slice_seen-in-Some-clause-seen g c =
    let read : to_z w32 (of_z w32 c.in-Some.pid) ≡ c.in-Some.pid = search rules in
    sees_as g.W.Watch.tells _ _ _ _
    (ap (λ (pid : ℤ). views_of pid (now c.claim.new.self)) read ∙ views_sliced c.args.world.now c.claim.new.self c.in-Some.pid (sym c.in-Some.ensures.found) c.in-Some.ensures.step)
    c.in_ok-slice_seen-in-Some.ensures.seen
