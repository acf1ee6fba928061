use Rattle.std.proofs.Common.{refl, ap, ◌∙◌, subst, true, false}
use Rattle.muck_laws.proofs.Results.{on_err, on_ok}
use Rattle.std.proofs.lemmas.Bool.{both_ways}
use Rattle.muck_model.specs.declared.event.Event.TheVariants.{Stored, DumpFailed, Died}
use Rattle.spec_events.specs.Steps.{is_lawful}
use Rattle.spec_events.specs.Histories.{History, now, entered}
use Rattle.spec_dumps.proofs.Cutting.{failed_last}
use Rattle.muck_dumping.specs.inner.Dumps.{by}
use Rattle.muck_dumping.specs.inner.Between.{EndsAs}
use Rattle.muck_dumping.proofs.Steps.{end_lawful}
use Rattle.muck_dumping.proofs.Ending.{ended_rests, ended_dead}
use Rattle.muck_dumping.proofs.parts.end.Goals as goal

pub stored-requires : goal.stored-requires
stored-requires g c = ap (λ (x : History). is_lawful (now x) (by c.args.party (Stored c.args.number))) c.note.ensures ∙ end_lawful _ _ c.args.party c.args.number true c.requires.alive c.requires.makes c.requires.runs

pub dump_failed-requires : goal.dump_failed-requires
dump_failed-requires g c = ap (λ (x : History). is_lawful (now x) (by c.args.party (DumpFailed c.args.number))) c.note.ensures ∙ end_lawful _ _ c.args.party c.args.number false c.requires.alive c.requires.makes c.requires.runs

pub returns-then-stored-clause-rests : goal.returns-then-stored-clause-rests
returns-then-stored-clause-rests g c = λ mounted log r tells w e.
    on_ok c.stored.result c.stored.ensures.step (λ is. ended_rests g.D.Disk.seen g.D.Disk.moment g.D.Disk.images g.D.Disk.faults log c.args.first.now c.args.second.now mounted c.args.world.now (λ x. g.met.D.Disk.seen_left x tells) c.args.party c.args.number r true c.stored.new.self
    (is ∙ ap (λ (h : History). entered h (by c.args.party (Stored c.args.number))) c.note.ensures) w (subst (EndsAs r) c.if-stored.true e))

pub returns-then-stored-clause-safe : goal.returns-then-stored-clause-safe
returns-then-stored-clause-safe g c = λ mounted log r tells w.
    on_err c.stored.result c.stored.ensures.died (λ is. ended_dead g.D.Disk.seen g.D.Disk.moment g.D.Disk.images g.D.Disk.faults log c.args.first.now c.args.second.now mounted c.args.world.now (λ x. g.met.D.Disk.seen_left x tells) c.args.party r c.stored.new.self
    (is ∙ ap (λ (h : History). entered h (by c.args.party Died)) c.note.ensures) w)

pub returns-else-stored-clause-rests : goal.returns-else-stored-clause-rests
returns-else-stored-clause-rests g c = λ mounted log r tells w e.
    on_ok c.dump_failed.result c.dump_failed.ensures.step (λ is. ended_rests g.D.Disk.seen g.D.Disk.moment g.D.Disk.images g.D.Disk.faults log c.args.first.now c.args.second.now mounted c.args.world.now (λ x. g.met.D.Disk.seen_left x tells) c.args.party c.args.number r false c.dump_failed.new.self
    (is ∙ ap (λ (h : History). entered h (by c.args.party (DumpFailed c.args.number))) c.note.ensures) w (subst (EndsAs r) c.if-stored.false e))

pub returns-else-stored-clause-safe : goal.returns-else-stored-clause-safe
returns-else-stored-clause-safe g c = λ mounted log r tells w.
    on_err c.dump_failed.result c.dump_failed.ensures.died (λ is. ended_dead g.D.Disk.seen g.D.Disk.moment g.D.Disk.images g.D.Disk.faults log c.args.first.now c.args.second.now mounted c.args.world.now (λ x. g.met.D.Disk.seen_left x tells) c.args.party r c.dump_failed.new.self
    (is ∙ ap (λ (h : History). entered h (by c.args.party Died)) c.note.ensures) w)

pub returns-then-stored-clause-last : goal.returns-then-stored-clause-last
returns-then-stored-clause-last g c = λ off. absurd (both_ways c.args.stored off c.if-stored.true)

pub returns-else-stored-clause-last : goal.returns-else-stored-clause-last
returns-else-stored-clause-last g c = λ off.
    on_ok c.dump_failed.result c.dump_failed.ensures.step
    (λ is. failed_last c.args.world.now c.dump_failed.new.self _ c.args.party c.args.number (is ∙ ap (λ (h : History). entered h (by c.args.party (DumpFailed c.args.number))) c.note.ensures) refl)
