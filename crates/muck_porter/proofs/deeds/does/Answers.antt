use Rattle.std.proofs.Common.{◌≡◌, ℤ, false, [], to_z, of_z, w32, rules, refl, sym, ap, ◌∙◌, subst}
use Rattle.muck_model.specs.declared.event.Event.TheVariants.{Moment, Died}
use Rattle.spec_events.specs.Steps.{has_claim}
use Rattle.spec_events.specs.Histories.{now}
use Rattle.muck_porter.specs.declared.deeds.Deed.{Deed}
use Rattle.muck_porter.specs.declared.deeds.Deed.TheVariants.{Slice}
use Rattle.muck_porter.specs.declared.deeds.Did.TheVariants.{Timed, Dead}
use Rattle.muck_porter.specs.inner.Deeds.{DidAs, ClaimOf}
use Rattle.muck_porter.proofs.InRounds.{open_did, slice_did, stop_did, leave_did, died_did}
use Rattle.muck_porter.proofs.deeds.does.Goals as goal

pub returns-then-is_dead : goal.returns-then-is_dead
returns-then-is_dead g c = (Died, c.died.ensures, died_did c.args.deed.now c.args.noted c.args.peers.now.items (now c.args.world.now), refl)

pub returns-in-Open : goal.returns-in-Open
returns-in-Open g c =
    let e = c.opens.ensures in (
      e.0,
      e.1,
      subst (λ (d : Deed). DidAs d c.opens.result c.args.noted c.args.peers.now.items (now c.args.world.now) e.0) (sym c.in-Open.is)
          (open_did c.opens.result c.in-Open.d c.args.noted c.args.peers.now.items (now c.args.world.now) e.0 e.2),
      e.3,
    )

pub returns-in-Slice : goal.returns-in-Slice
returns-in-Slice g c =
    let e = c.slices.ensures in
    let read : to_z w32 (of_z w32 c.in-Slice.pid) ≡ c.in-Slice.pid = search rules in (
      e.0,
      e.1,
      subst (λ (d : Deed). DidAs d c.slices.result c.args.noted c.args.peers.now.items (now c.args.world.now) e.0) (sym c.in-Slice.is)
          (slice_did c.slices.result c.in-Slice.pid c.args.noted c.args.peers.now.items (now c.args.world.now) e.0
          (subst (λ (pid : ℤ). DidAs (Slice pid) c.slices.result false [] (now c.args.world.now) e.0) read e.2)),
      e.3 (now c.args.world.now) (g.C.Clock.answers c.args.clock.now),
    )

pub returns-in-Time : goal.returns-in-Time
returns-in-Time g c =
    let t = c.tells_time.ensures in
    (Moment t.0, t.1, subst (λ (d : Deed). DidAs d Timed c.args.noted c.args.peers.now.items (now c.args.world.now) (Moment t.0)) (sym c.in-Time.is) (t.0, refl), t.2)

pub returns-in-Stop : goal.returns-in-Stop
returns-in-Stop g c =
    let e = c.halts.ensures in (
      e.0,
      e.1,
      subst (λ (d : Deed). DidAs d c.halts.result c.args.noted c.args.peers.now.items (now c.args.world.now) e.0) (sym c.in-Stop.is)
          (stop_did c.halts.result c.args.noted c.args.peers.now.items (now c.args.world.now) e.0 e.2),
      e.3,
    )

pub returns-in-Leave : goal.returns-in-Leave
returns-in-Leave g c =
    let e = c.leaves.ensures in (
      e.0,
      e.1,
      subst (λ (d : Deed). DidAs d c.leaves.result c.args.noted c.args.peers.now.items (now c.args.world.now) e.0) (sym c.in-Leave.is)
          (leave_did c.leaves.result c.args.noted c.args.peers.now.items (now c.args.world.now) e.0 e.2),
      e.3,
    )

pub returns-in-Die : goal.returns-in-Die
returns-in-Die g c = (Died, c.died-in-Die.ensures, subst (λ (d : Deed). DidAs d Dead c.args.noted c.args.peers.now.items (now c.args.world.now) Died) (sym c.in-Die.is) refl, refl)

pub slices-requires-clause-claim : goal.slices-requires-clause-claim
slices-requires-clause-claim g c =
    let read : to_z w32 (of_z w32 c.in-Slice.pid) ≡ c.in-Slice.pid = search rules in
    let mine : ClaimOf (Slice c.in-Slice.pid) (now c.args.world.now) = subst (λ (d : Deed). ClaimOf d (now c.args.world.now)) c.in-Slice.is c.requires in
    ap (λ (pid : ℤ). has_claim 0 pid (now c.args.world.now)) read ∙ mine
