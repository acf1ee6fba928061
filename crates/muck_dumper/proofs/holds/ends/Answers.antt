use Rattle.std.proofs.Common.{Bool, if◌then◌else◌, refl, subst}
use Rattle.spec_events.specs.Own.{Stage}
use Rattle.muck_model.specs.declared.event.Event.TheVariants.{Died}
use Rattle.muck_dumping.specs.inner.Dumps.{ending_event}
use Rattle.muck_dumper.specs.inner.Steps.{Step}
use Rattle.muck_dumping.specs.inner.Between.{IsWritten}
use Rattle.muck_dumper.specs.inner.Dumping.{history_seen}
use Rattle.muck_dumping.proofs.Marks.{ending_other}
use Rattle.muck_dumper.proofs.Turns.{goes_step}
use Rattle.muck_dumper.proofs.Ways.{settles_ended, stops_dead, stops_spent}
use Rattle.muck_dumper.proofs.holds.ends.Goals as goal

pub returns-in-Ok-true-clause-ok : goal.returns-in-Ok-true-clause-ok
returns-in-Ok-true-clause-ok g c = λ r e.
    settles_ended g.D.Disk.tells g.D.Disk.seen g.D.Disk.moment g.D.Disk.images g.D.Disk.faults c.args.store.now.log c.args.first.now c.args.second.now c.args.number c.args.stored (λ mounted. IsWritten g.D.Disk.seen g.D.Disk.moment g.D.Disk.images g.D.Disk.faults c.args.store.now.log c.args.first.now c.args.second.now mounted (history_seen c.args.seat.now.me.0) r) c.args.seat.now.me c.finish_turn.new.seat.me
    (subst (λ (told : Bool). Step (if told then ending_event c.args.number c.args.stored else Died) c.args.seat.now.me c.finish_turn.new.seat.me) c.in-Ok-true.field-0-test c.in-Ok-true.ensures.ok) (c.in-Ok-true.ensures.idle c.in-Ok-true.field-0-test) (λ mounted on w. c.in-Ok-true.ensures.rests mounted c.args.store.now.log r on w e c.in-Ok-true.field-0-test)

pub returns-in-Ok-true-clause-marks : goal.returns-in-Ok-true-clause-marks
returns-in-Ok-true-clause-marks g c = λ goes.
    goes_step c.args.store.now.marks c.args.store.now.log (ending_event c.args.number c.args.stored) c.args.seat.now.me c.finish_turn.new.seat.me (ending_other c.args.number c.args.stored)
    (subst (λ (told : Bool). Step (if told then ending_event c.args.number c.args.stored else Died) c.args.seat.now.me c.finish_turn.new.seat.me) c.in-Ok-true.field-0-test c.in-Ok-true.ensures.ok) goes

pub returns-in-Ok-false-clause-err : goal.returns-in-Ok-false-clause-err
returns-in-Ok-false-clause-err g c = λ r e.
    stops_dead g.D.Disk.tells g.D.Disk.seen g.D.Disk.moment g.D.Disk.images g.D.Disk.faults c.args.first.now c.args.second.now (Stage.dumping c.args.number) (λ mounted. IsWritten g.D.Disk.seen g.D.Disk.moment g.D.Disk.images g.D.Disk.faults c.args.store.now.log c.args.first.now c.args.second.now mounted (history_seen c.args.seat.now.me.0) r) c.args.seat.now.me c.finish_turn.new.seat.me refl (subst (λ (told : Bool). Step (if told then ending_event c.args.number c.args.stored else Died) c.args.seat.now.me c.finish_turn.new.seat.me) c.in-Ok-false.field-0-test c.in-Ok-false.ensures.ok)
    (λ mounted on w. c.in-Ok-false.ensures.safe mounted c.args.store.now.log r on w c.in-Ok-false.field-0-test)

pub returns-in-Err-clause-err : goal.returns-in-Err-clause-err
returns-in-Err-clause-err g c = λ r e.
    let x = c.in-Err.ensures.err in
    stops_spent g.D.Disk.tells g.D.Disk.seen g.D.Disk.moment g.D.Disk.images g.D.Disk.faults c.args.first.now c.args.second.now (Stage.dumping c.args.number) (λ mounted. IsWritten g.D.Disk.seen g.D.Disk.moment g.D.Disk.images g.D.Disk.faults c.args.store.now.log c.args.first.now c.args.second.now mounted (history_seen c.args.seat.now.me.0) r) c.args.seat.now.me c.finish_turn.new.seat.me c.requires.rests x.0 x.1 x.2
    (λ mounted on w. w.keeps.safe)

pub returns-in-Ok-true-clause-last : goal.returns-in-Ok-true-clause-last
returns-in-Ok-true-clause-last g c = λ failed. c.in-Ok-true.ensures.last failed c.in-Ok-true.field-0-test
