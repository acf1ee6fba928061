use Rattle.std.proofs.Common.{sym, subst}
use Rattle.std.proofs.lemmas.Result.{err_from_is_err_and}
use Rattle.spec_events.specs.Histories.{History}
use Rattle.spec_dumps.proofs.Idle.{idle_quiet}
use Rattle.muck_dumping.proofs.Knowing.{knows_quiet}
use Rattle.muck_dumper.specs.inner.Dumping.{history_seen}
use Rattle.muck_dumper.specs.inner.Steps.{event_of, KeptBy}
use Rattle.muck_dumper.proofs.Knowing.{held_quiet}
use Rattle.muck_dumper.proofs.Turns.{entry_made, step_made}
use Rattle.muck_dumper.proofs.holds.watch_turn.Goals as goal

pub takes-requires-clause-rests : goal.takes-requires-clause-rests
takes-requires-clause-rests g c = (9, c.requires.rests)

pub gives-requires-clause-entered : goal.gives-requires-clause-entered
gives-requires-clause-entered g c = entry_made c.args.seat.now.me c.takes.new.seat.me c.in_ok-held.held.state c.watches-did.new.world (event_of c.watches-did.result) (c.in_ok-held.ensures.ok 9 c.requires.rests) c.watches-did.ensures.made

pub watches-did-requires : goal.watches-did-requires
watches-did-requires g c = record { idle = idle_quiet (history_seen c.args.seat.now.me.0) c.in_ok-held.held.state (held_quiet c.args.seat.now.me c.takes.new.seat.me c.in_ok-held.held.state (c.in_ok-held.ensures.ok 9 c.requires.rests)) c.requires.idle; knows = knows_quiet c.args.store.now (history_seen c.args.seat.now.me.0) c.in_ok-held.held.state (held_quiet c.args.seat.now.me c.takes.new.seat.me c.in_ok-held.held.state (c.in_ok-held.ensures.ok 9 c.requires.rests)) c.requires.knows }

pub returns-clause-ok : goal.returns-clause-ok
returns-clause-ok g c =
    let it = step_made c.args.seat.now.me c.takes.new.seat.me c.in_ok-held.held.state c.watches-did.new.world (event_of c.watches-did.result) (c.in_ok-held.ensures.ok 9 c.requires.rests) c.watches-did.ensures.made c.gives.new.seat.me c.gives.ensures.given in
    let Kept : History → History → Type 0 = λ h k. KeptBy g.D.Disk.tells g.D.Disk.seen g.D.Disk.moment g.D.Disk.images g.D.Disk.faults c.args.store.now c.args.first.now c.args.second.now c.watches-did.result h k in
    (it.0, subst (λ (h : History). Kept h (history_seen c.gives.new.seat.me.0)) (sym it.1) (subst (λ (k : History). Kept c.in_ok-held.held.state k) (sym it.2) c.watches-did.ensures.kept))

pub returns-in_err-held-clause-err : goal.returns-in_err-held-clause-err
returns-in_err-held-clause-err g c =
    let err = c.in_err-held.ensures in
    let p = err_from_is_err_and c.from_residual.result c.from_residual.ensures.1 in
    rw p.1 (err.left 9 c.requires.rests, err.waited.0, err.waited.1)
