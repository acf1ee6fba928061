use Rattle.std.proofs.Common.{refl, ◌∙◌, subst, arith}
use Rattle.muck_model.specs.declared.event.Event.TheVariants.{Idle}
use Rattle.spec_events.specs.Own.{Stage}
use Rattle.muck_dumping.specs.inner.Between.{IsReady, IsPending}
use Rattle.muck_dumper.specs.declared.deeds.Did.{Did}
use Rattle.muck_dumper.specs.inner.Dumping.{history_seen}
use Rattle.muck_dumper.specs.inner.Steps.{Watched}
use Rattle.muck_dumper.proofs.Ways.{knows_bare, watches_begun, watches_idled, pending_then, moves_begun, watches_made, done_wanted, done_all_had, done_fine, done_dead, done_spent}
use Rattle.muck_dumper.proofs.dumping.dumper.Goals as goal

pub loop-init : goal.loop-init
loop-init g c = (refl, refl, watches_begun g.D.Disk.tells g.D.Disk.seen g.D.Disk.moment g.D.Disk.images g.D.Disk.faults c.args.store.now.log c.args.first.now c.args.second.now c.args.seat.now.me c.requires.ready, omega arith, omega arith, c.requires.knows, refl, refl)

pub loop-preserved-in-Ok-Idled : goal.loop-preserved-in-Ok-Idled
loop-preserved-in-Ok-Idled g c =
    let inv = c.loop.invariant in
    let own = c.in-Ok-Idled.ensures.own in
    let table = own.0 ∙ inv.0 in
    let id = own.1 ∙ inv.1 in
    let did = subst (λ (x : Did). Watched g.D.Disk.tells g.D.Disk.seen g.D.Disk.moment g.D.Disk.images g.D.Disk.faults c.loop.store c.loop.first c.loop.second x c.loop.seat.me c.watch_turn.new.seat.me) c.in-Ok-Idled.field-0-is c.in-Ok-Idled.ensures.ok in
    (table, id, watches_idled g.D.Disk.tells g.D.Disk.seen g.D.Disk.moment g.D.Disk.images g.D.Disk.faults c.loop.store c.loop.first c.loop.second Stage.unbound (λ mounted. IsReady g.D.Disk.seen g.D.Disk.moment g.D.Disk.images g.D.Disk.faults c.args.store.now.log c.args.first.now c.args.second.now mounted (history_seen c.args.seat.now.me.0)) c.args.seat.now.me c.loop.seat.me c.watch_turn.new.seat.me inv.2 did.0 did.1, inv.3, inv.4, knows_bare c.loop.store Idle c.loop.seat.me c.watch_turn.new.seat.me refl did.0 did.1 inv.5, inv.6, inv.7)

pub makes-requires-clause-rests : goal.makes-requires-clause-rests
makes-requires-clause-rests g c =
    let did = subst (λ (x : Did). Watched g.D.Disk.tells g.D.Disk.seen g.D.Disk.moment g.D.Disk.images g.D.Disk.faults c.loop.store c.loop.first c.loop.second x c.loop.seat.me c.watch_turn.new.seat.me) c.in-Ok-Began.field-0-is c.in-Ok-Began.ensures.ok in
    did.0.rests

pub makes-requires-clause-runs : goal.makes-requires-clause-runs
makes-requires-clause-runs g c =
    let did = subst (λ (x : Did). Watched g.D.Disk.tells g.D.Disk.seen g.D.Disk.moment g.D.Disk.images g.D.Disk.faults c.loop.store c.loop.first c.loop.second x c.loop.seat.me c.watch_turn.new.seat.me) c.in-Ok-Began.field-0-is c.in-Ok-Began.ensures.ok in
    did.1.0

pub makes-requires-clause-number : goal.makes-requires-clause-number
makes-requires-clause-number g c =
    let did = subst (λ (x : Did). Watched g.D.Disk.tells g.D.Disk.seen g.D.Disk.moment g.D.Disk.images g.D.Disk.faults c.loop.store c.loop.first c.loop.second x c.loop.seat.me c.watch_turn.new.seat.me) c.in-Ok-Began.field-0-is c.in-Ok-Began.ensures.ok in
    did.1.3

pub makes-requires-clause-batch : goal.makes-requires-clause-batch
makes-requires-clause-batch g c =
    let did = subst (λ (x : Did). Watched g.D.Disk.tells g.D.Disk.seen g.D.Disk.moment g.D.Disk.images g.D.Disk.faults c.loop.store c.loop.first c.loop.second x c.loop.seat.me c.watch_turn.new.seat.me) c.in-Ok-Began.field-0-is c.in-Ok-Began.ensures.ok in
    did.1.1

pub makes-requires-clause-mounted : goal.makes-requires-clause-mounted
makes-requires-clause-mounted g c = λ tells.
    let inv = c.loop.invariant in
    let did = subst (λ (x : Did). Watched g.D.Disk.tells g.D.Disk.seen g.D.Disk.moment g.D.Disk.images g.D.Disk.faults c.loop.store c.loop.first c.loop.second x c.loop.seat.me c.watch_turn.new.seat.me) c.in-Ok-Began.field-0-is c.in-Ok-Began.ensures.ok in
    let there = c.requires.mounted tells in
    (there.0, pending_then g.D.Disk.tells g.D.Disk.seen g.D.Disk.moment g.D.Disk.images g.D.Disk.faults c.loop.store c.loop.first c.loop.second Stage.unbound (λ mounted. IsReady g.D.Disk.seen g.D.Disk.moment g.D.Disk.images g.D.Disk.faults c.args.store.now.log c.args.first.now c.args.second.now mounted (history_seen c.args.seat.now.me.0)) c.args.seat.now.me c.loop.seat.me c.watch_turn.new.seat.me inv.2 c.in-Ok-Began.pending did.0 did.1 there.0 tells there.1)

pub loop-preserved-in-Ok : goal.loop-preserved-in-Ok
loop-preserved-in-Ok g c =
    let inv = c.loop.invariant in
    let own = c.in-Ok-Began.ensures.own in
    let own' = c.makes.ensures.own in
    let table = own'.0 ∙ own.0 ∙ inv.0 in
    let id = own'.1 ∙ own.1 ∙ inv.1 in
    let did = subst (λ (x : Did). Watched g.D.Disk.tells g.D.Disk.seen g.D.Disk.moment g.D.Disk.images g.D.Disk.faults c.loop.store c.loop.first c.loop.second x c.loop.seat.me c.watch_turn.new.seat.me) c.in-Ok-Began.field-0-is c.in-Ok-Began.ensures.ok in (
      table,
      id,
      watches_made g.D.Disk.tells g.D.Disk.seen g.D.Disk.moment g.D.Disk.images g.D.Disk.faults c.loop.store c.loop.first c.loop.second Stage.unbound (λ mounted. IsReady g.D.Disk.seen g.D.Disk.moment g.D.Disk.images g.D.Disk.faults c.args.store.now.log c.args.first.now c.args.second.now mounted (history_seen c.args.seat.now.me.0)) c.args.seat.now.me c.loop.seat.me c.watch_turn.new.seat.me inv.2 c.in-Ok-Began.pending did.0 did.1 c.makes.new.store.log c.makes.new.first c.makes.new.second c.makes.new.seat.me c.in-Ok.ensures.ok,
      omega (arith, inv.3, c.makes.ensures.first_later),
      omega (arith, inv.4, c.makes.ensures.second_later),
      c.in-Ok.ensures.knows,
      c.makes.ensures.first_attached ∙ inv.6,
      c.makes.ensures.second_attached ∙ inv.7,
    )

pub loop-preserved : goal.loop-preserved
loop-preserved g c =
    let inv = c.loop.invariant in
    let own = c.in-Ok-Stops.ensures.own in
    let table = own.0 ∙ inv.0 in
    let id = own.1 ∙ inv.1 in
    let did = subst (λ (x : Did). Watched g.D.Disk.tells g.D.Disk.seen g.D.Disk.moment g.D.Disk.images g.D.Disk.faults c.loop.store c.loop.first c.loop.second x c.loop.seat.me c.watch_turn.new.seat.me) c.in-Ok-Stops.field-0-is c.in-Ok-Stops.ensures.ok in
    (table, id, watches_idled g.D.Disk.tells g.D.Disk.seen g.D.Disk.moment g.D.Disk.images g.D.Disk.faults c.loop.store c.loop.first c.loop.second Stage.unbound (λ mounted. IsReady g.D.Disk.seen g.D.Disk.moment g.D.Disk.images g.D.Disk.faults c.args.store.now.log c.args.first.now c.args.second.now mounted (history_seen c.args.seat.now.me.0)) c.args.seat.now.me c.loop.seat.me c.watch_turn.new.seat.me inv.2 did.0 did.1, inv.3, inv.4, knows_bare c.loop.store Idle c.loop.seat.me c.watch_turn.new.seat.me refl did.0 did.1 inv.5, inv.6, inv.7)

pub returns-in-Err-NoMemory-clause-done : goal.returns-in-Err-NoMemory-clause-done
returns-in-Err-NoMemory-clause-done g c =
    let inv = c.loop.invariant in
    let did = subst (λ (x : Did). Watched g.D.Disk.tells g.D.Disk.seen g.D.Disk.moment g.D.Disk.images g.D.Disk.faults c.loop.store c.loop.first c.loop.second x c.loop.seat.me c.watch_turn.new.seat.me) c.in-Ok-Began.field-0-is c.in-Ok-Began.ensures.ok in
    done_wanted g.D.Disk.tells g.D.Disk.seen g.D.Disk.moment g.D.Disk.images g.D.Disk.faults c.args.store.now c.args.first.now c.args.second.now c.args.seat.now.me c.requires.ready c.makes.new.store c.makes.new.first c.makes.new.second (omega (arith, inv.3, c.makes.ensures.first_later)) (omega (arith, inv.4, c.makes.ensures.second_later))
    c.watch_turn.new.seat.me c.makes.new.seat.me (Stage.dumping c.in-Ok-Began.pending.number)
    (λ mounted. IsPending g.D.Disk.seen g.D.Disk.moment g.D.Disk.images g.D.Disk.faults c.loop.store.log c.loop.first c.loop.second mounted (history_seen c.watch_turn.new.seat.me.0) c.in-Ok-Began.pending)
    (moves_begun g.D.Disk.tells g.D.Disk.seen g.D.Disk.moment g.D.Disk.images g.D.Disk.faults c.loop.store c.loop.first c.loop.second Stage.unbound (λ mounted. IsReady g.D.Disk.seen g.D.Disk.moment g.D.Disk.images g.D.Disk.faults c.args.store.now.log c.args.first.now c.args.second.now mounted (history_seen c.args.seat.now.me.0)) c.args.seat.now.me c.loop.seat.me c.watch_turn.new.seat.me inv.2 c.in-Ok-Began.pending did.0 did.1)
    (pending_then g.D.Disk.tells g.D.Disk.seen g.D.Disk.moment g.D.Disk.images g.D.Disk.faults c.loop.store c.loop.first c.loop.second Stage.unbound (λ mounted. IsReady g.D.Disk.seen g.D.Disk.moment g.D.Disk.images g.D.Disk.faults c.args.store.now.log c.args.first.now c.args.second.now mounted (history_seen c.args.seat.now.me.0)) c.args.seat.now.me c.loop.seat.me c.watch_turn.new.seat.me inv.2 c.in-Ok-Began.pending did.0 did.1)
    _ c.in-Err-NoMemory.field-0-is c.in-Err-NoMemory.ensures.err

pub returns-in-Err-Spent-clause-done : goal.returns-in-Err-Spent-clause-done
returns-in-Err-Spent-clause-done g c =
    let inv = c.loop.invariant in
    let did = subst (λ (x : Did). Watched g.D.Disk.tells g.D.Disk.seen g.D.Disk.moment g.D.Disk.images g.D.Disk.faults c.loop.store c.loop.first c.loop.second x c.loop.seat.me c.watch_turn.new.seat.me) c.in-Ok-Began.field-0-is c.in-Ok-Began.ensures.ok in
    done_all_had g.D.Disk.tells g.D.Disk.seen g.D.Disk.moment g.D.Disk.images g.D.Disk.faults c.args.store.now c.args.first.now c.args.second.now c.args.seat.now.me c.requires.ready c.makes.new.store c.makes.new.first c.makes.new.second (omega (arith, inv.3, c.makes.ensures.first_later)) (omega (arith, inv.4, c.makes.ensures.second_later))
    c.watch_turn.new.seat.me c.makes.new.seat.me (Stage.dumping c.in-Ok-Began.pending.number)
    (λ mounted. IsPending g.D.Disk.seen g.D.Disk.moment g.D.Disk.images g.D.Disk.faults c.loop.store.log c.loop.first c.loop.second mounted (history_seen c.watch_turn.new.seat.me.0) c.in-Ok-Began.pending)
    (moves_begun g.D.Disk.tells g.D.Disk.seen g.D.Disk.moment g.D.Disk.images g.D.Disk.faults c.loop.store c.loop.first c.loop.second Stage.unbound (λ mounted. IsReady g.D.Disk.seen g.D.Disk.moment g.D.Disk.images g.D.Disk.faults c.args.store.now.log c.args.first.now c.args.second.now mounted (history_seen c.args.seat.now.me.0)) c.args.seat.now.me c.loop.seat.me c.watch_turn.new.seat.me inv.2 c.in-Ok-Began.pending did.0 did.1)
    (pending_then g.D.Disk.tells g.D.Disk.seen g.D.Disk.moment g.D.Disk.images g.D.Disk.faults c.loop.store c.loop.first c.loop.second Stage.unbound (λ mounted. IsReady g.D.Disk.seen g.D.Disk.moment g.D.Disk.images g.D.Disk.faults c.args.store.now.log c.args.first.now c.args.second.now mounted (history_seen c.args.seat.now.me.0)) c.args.seat.now.me c.loop.seat.me c.watch_turn.new.seat.me inv.2 c.in-Ok-Began.pending did.0 did.1)
    _ c.in-Err-Spent.field-0-is c.in-Err-Spent.ensures.err

pub returns-in-Ok-Over-clause-done : goal.returns-in-Ok-Over-clause-done
returns-in-Ok-Over-clause-done g c =
    let inv = c.loop.invariant in
    let did = subst (λ (x : Did). Watched g.D.Disk.tells g.D.Disk.seen g.D.Disk.moment g.D.Disk.images g.D.Disk.faults c.loop.store c.loop.first c.loop.second x c.loop.seat.me c.watch_turn.new.seat.me) c.in-Ok-Over.field-0-is c.in-Ok-Over.ensures.ok in
    done_fine g.D.Disk.tells g.D.Disk.seen g.D.Disk.moment g.D.Disk.images g.D.Disk.faults c.args.store.now c.args.first.now c.args.second.now c.args.seat.now.me c.requires.ready c.loop.store c.loop.first c.loop.second inv.3 inv.4 c.loop.seat.me c.watch_turn.new.seat.me inv.2 did.0 did.1 inv.5

pub returns-in-Ok-Failed-clause-done : goal.returns-in-Ok-Failed-clause-done
returns-in-Ok-Failed-clause-done g c =
    let inv = c.loop.invariant in
    let did = subst (λ (x : Did). Watched g.D.Disk.tells g.D.Disk.seen g.D.Disk.moment g.D.Disk.images g.D.Disk.faults c.loop.store c.loop.first c.loop.second x c.loop.seat.me c.watch_turn.new.seat.me) c.in-Ok-Failed.field-0-is c.in-Ok-Failed.ensures.ok in
    done_dead g.D.Disk.tells g.D.Disk.seen g.D.Disk.moment g.D.Disk.images g.D.Disk.faults c.args.store.now c.args.first.now c.args.second.now c.args.seat.now.me c.requires.ready c.loop.store c.loop.first c.loop.second inv.3 inv.4 c.loop.seat.me c.watch_turn.new.seat.me inv.2 did.0 did.1

pub returns-in-Err-clause-done : goal.returns-in-Err-clause-done
returns-in-Err-clause-done g c =
    let inv = c.loop.invariant in
    let err = c.in-Err.ensures.err in
    done_spent g.D.Disk.tells g.D.Disk.seen g.D.Disk.moment g.D.Disk.images g.D.Disk.faults c.args.store.now c.args.first.now c.args.second.now c.args.seat.now.me c.requires.ready c.loop.store c.loop.first c.loop.second inv.3 inv.4 c.loop.seat.me c.watch_turn.new.seat.me inv.2 err.0 err.1 err.2
