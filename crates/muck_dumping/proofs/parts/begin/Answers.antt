use Rattle.std.proofs.Common.{ap, ◌∙◌, sym, subst}
use Rattle.muck_laws.proofs.Results.{all_ok, on_err}
use Rattle.muck_model.specs.declared.event.Event.TheVariants.{Cut, Died}
use Rattle.spec_events.specs.Steps.{is_lawful}
use Rattle.spec_events.specs.Histories.{History, now, entered}
use Rattle.spec_dumps.specs.inner.Holding.{FailedLast}
use Rattle.muck_dumping.specs.inner.Dumps.{by}
use Rattle.muck_dumping.specs.inner.Between.{GoesByMarks, next_number}
use Rattle.muck_dumping.proofs.Steps.{cut_lawful, noted_lives}
use Rattle.muck_dumping.proofs.Marks.{batch_at_cut}
use Rattle.muck_dumping.proofs.Knowing.{next_mounted, next_unmounted}
use Rattle.muck_dumping.proofs.Beginning.{died_noted, batch_noted, pending_as}
use Rattle.muck_dumping.proofs.parts.begin.Goals as goal

pub cut-requires-clause-alive : goal.cut-requires-clause-alive
cut-requires-clause-alive g c = ap (λ (x : History). (now x).dead) c.note.ensures ∙ noted_lives _ _ c.requires.alive

pub cut-requires-clause-lawful : goal.cut-requires-clause-lawful
cut-requires-clause-lawful g c =
    ap (λ (x : History). is_lawful (now x) (by c.args.party (Cut (next_number c.args.store.now)))) c.note.ensures ∙ cut_lawful _ _ c.args.party _ c.requires.alive c.requires.may

pub cut-requires-clause-marks : goal.cut-requires-clause-marks
cut-requires-clause-marks g c = subst (λ (x : History). GoesByMarks c.args.store.now.marks c.args.store.now.log x) (sym c.note.ensures) c.requires.knows.marks

pub returns-clause-step : goal.returns-clause-step
returns-clause-step g c =
    all_ok _ _ _ _ c.cut.result (λ p step number batch. step ∙ ap (λ (h : History). entered h (by c.args.party (Cut p.number))) c.note.ensures) c.cut.ensures.step c.cut.ensures.number c.cut.ensures.batch

pub returns-clause-batch : goal.returns-clause-batch
returns-clause-batch g c =
    all_ok _ _ _ _ c.cut.result
    (λ p step number batch.
    batch_at_cut _ c.args.world.now c.cut.new.world _ c.args.party p.number p (step ∙ ap (λ (h : History). entered h (by c.args.party (Cut p.number))) c.note.ensures) (batch_noted _ c.args.world.now c.note.new.self _ p c.note.ensures batch))
    c.cut.ensures.step c.cut.ensures.number c.cut.ensures.batch

pub returns-clause-pending : goal.returns-clause-pending
returns-clause-pending g c = λ mounted tells ready.
    all_ok _ _ _ _ c.cut.result
    (λ p step number batch.
    pending_as g.D.Disk.seen g.D.Disk.moment g.D.Disk.images g.D.Disk.faults c.args.store.now.log c.args.first.now c.args.second.now mounted c.args.world.now c.args.party p.number p ready
    (batch_noted _ c.args.world.now c.note.new.self _ p c.note.ensures batch)
    (λ x. g.met.D.Disk.seen_left x tells) (λ x is. number ∙ next_mounted c.args.store.now x is)
    (λ none. subst (λ i. FailedLast i c.args.world.now) (sym (number ∙ next_unmounted c.args.store.now none)) (c.requires.knows.number none)) c.cut.new.world (step ∙ ap (λ (h : History). entered h (by c.args.party (Cut p.number))) c.note.ensures))
    c.cut.ensures.step c.cut.ensures.number c.cut.ensures.batch

pub returns-clause-safe : goal.returns-clause-safe
returns-clause-safe g c = λ mounted tells v.
    on_err c.cut.result c.cut.ensures.died (λ is.
    died_noted g.D.Disk.seen g.D.Disk.moment g.D.Disk.images g.D.Disk.faults c.args.store.now.log c.args.first.now c.args.second.now mounted c.args.world.now c.cut.new.world c.args.party v
    (is ∙ ap (λ (h : History). entered h (by c.args.party Died)) c.note.ensures))
