use Rattle.std.proofs.Common.{if◌then◌else◌, sym, ◌∙◌, ap, subst}
use Rattle.std.proofs.lemmas.Result.{err_from_is_err_and}
use Rattle.muck_model.specs.declared.event.Event.TheVariants.{Died}
use Rattle.spec_events.specs.Histories.{History, now}
use Rattle.muck_dumping.specs.inner.Dumps.{ending_event}
use Rattle.spec_dumps.specs.Survival.{IsSafe}
use Rattle.spec_dumps.specs.inner.Holding.{FailedLast, Rests}
use Rattle.spec_dumps.proofs.Idle.{runs_quiet}
use Rattle.muck_dumping.proofs.Writing.{written_quiet}
use Rattle.muck_dumper.specs.inner.Dumping.{history_seen}
use Rattle.muck_dumper.proofs.Knowing.{held_quiet}
use Rattle.muck_dumper.proofs.Turns.{entry_made, step_made}
use Rattle.muck_dumper.proofs.holds.finish_turn.Goals as goal

pub takes-requires-clause-rests : goal.takes-requires-clause-rests
takes-requires-clause-rests g c = (9, c.requires.rests)

pub gives-requires-clause-entered : goal.gives-requires-clause-entered
gives-requires-clause-entered g c = entry_made c.args.seat.now.me c.takes.new.seat.me c.in_ok-held.held.state c.finishes-told.new.world (if c.finishes-told.result then ending_event c.args.number c.args.stored else Died) (c.in_ok-held.ensures.ok 9 c.requires.rests) c.finishes-told.ensures.made

pub finishes-told-requires : goal.finishes-told-requires
finishes-told-requires g c = record { runs = runs_quiet (history_seen c.args.seat.now.me.0) c.in_ok-held.held.state c.args.number (held_quiet c.args.seat.now.me c.takes.new.seat.me c.in_ok-held.held.state (c.in_ok-held.ensures.ok 9 c.requires.rests)) c.requires.runs }

pub returns-clause-ok : goal.returns-clause-ok
returns-clause-ok g c =
    let it = step_made c.args.seat.now.me c.takes.new.seat.me c.in_ok-held.held.state c.finishes-told.new.world (if c.finishes-told.result then ending_event c.args.number c.args.stored else Died) (c.in_ok-held.ensures.ok 9 c.requires.rests) c.finishes-told.ensures.made c.gives.new.seat.me c.gives.ensures.given in
    it.0

pub returns-clause-idle : goal.returns-clause-idle
returns-clause-idle g c = λ is.
    let it = step_made c.args.seat.now.me c.takes.new.seat.me c.in_ok-held.held.state c.finishes-told.new.world (if c.finishes-told.result then ending_event c.args.number c.args.stored else Died) (c.in_ok-held.ensures.ok 9 c.requires.rests) c.finishes-told.ensures.made c.gives.new.seat.me c.gives.ensures.given in
    ap (λ (k : History). (now k).dumps.running) it.2 ∙ c.finishes-told.ensures.idle is

pub returns-clause-last : goal.returns-clause-last
returns-clause-last g c = λ failed is.
    let it = step_made c.args.seat.now.me c.takes.new.seat.me c.in_ok-held.held.state c.finishes-told.new.world (if c.finishes-told.result then ending_event c.args.number c.args.stored else Died) (c.in_ok-held.ensures.ok 9 c.requires.rests) c.finishes-told.ensures.made c.gives.new.seat.me c.gives.ensures.given in
    subst (λ (k : History). FailedLast c.args.number k) (sym it.2) (c.finishes-told.ensures.last failed is)

pub returns-clause-rests : goal.returns-clause-rests
returns-clause-rests g c = λ mounted log r tells w ends is.
    let it = step_made c.args.seat.now.me c.takes.new.seat.me c.in_ok-held.held.state c.finishes-told.new.world (if c.finishes-told.result then ending_event c.args.number c.args.stored else Died) (c.in_ok-held.ensures.ok 9 c.requires.rests) c.finishes-told.ensures.made c.gives.new.seat.me c.gives.ensures.given in
    subst (λ (k : History). Rests g.D.Disk.seen g.D.Disk.moment g.D.Disk.images g.D.Disk.faults log c.args.first.now c.args.second.now mounted k) (sym it.2)
    (c.finishes-told.ensures.rests mounted log r tells (written_quiet g.D.Disk.seen g.D.Disk.moment g.D.Disk.images g.D.Disk.faults log c.args.first.now c.args.second.now mounted (history_seen c.args.seat.now.me.0) c.in_ok-held.held.state (held_quiet c.args.seat.now.me c.takes.new.seat.me c.in_ok-held.held.state (c.in_ok-held.ensures.ok 9 c.requires.rests)) r w) ends is)

pub returns-clause-safe : goal.returns-clause-safe
returns-clause-safe g c = λ mounted log r tells w is.
    let it = step_made c.args.seat.now.me c.takes.new.seat.me c.in_ok-held.held.state c.finishes-told.new.world (if c.finishes-told.result then ending_event c.args.number c.args.stored else Died) (c.in_ok-held.ensures.ok 9 c.requires.rests) c.finishes-told.ensures.made c.gives.new.seat.me c.gives.ensures.given in
    subst (λ (k : History). IsSafe g.D.Disk.moment g.D.Disk.images g.D.Disk.faults c.args.first.now c.args.second.now k.start mounted k.entries k.notes) (sym it.2)
    (c.finishes-told.ensures.safe mounted log r tells (written_quiet g.D.Disk.seen g.D.Disk.moment g.D.Disk.images g.D.Disk.faults log c.args.first.now c.args.second.now mounted (history_seen c.args.seat.now.me.0) c.in_ok-held.held.state (held_quiet c.args.seat.now.me c.takes.new.seat.me c.in_ok-held.held.state (c.in_ok-held.ensures.ok 9 c.requires.rests)) r w) is)

pub returns-in_err-held-clause-err : goal.returns-in_err-held-clause-err
returns-in_err-held-clause-err g c =
    let err = c.in_err-held.ensures in
    let p = err_from_is_err_and c.from_residual.result c.from_residual.ensures.1 in
    rw p.1 (err.left 9 c.requires.rests, err.waited.0, err.waited.1)
