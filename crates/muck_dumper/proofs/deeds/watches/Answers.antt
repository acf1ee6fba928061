use Rattle.std.proofs.Common.{refl, sym, ◌∙◌, ap, subst}
use Rattle.muck_model.specs.declared.event.Event.TheVariants.{Idle, Cut, Died}
use Rattle.spec_dumps.specs.inner.Holding.{Keeps}
use Rattle.spec_events.specs.Steps.{is_lawful}
use Rattle.spec_events.specs.Histories.{History, now}
use Rattle.muck_dumping.specs.inner.Dumps.{by, note_of}
use Rattle.muck_dumping.specs.inner.Between.{Knows}
use Rattle.muck_dumping.proofs.Beginning.{died_here}
use Rattle.muck_dumping.proofs.Steps.{cut_runs}
use Rattle.muck_dumper.specs.inner.Steps.{with_note}
use Rattle.muck_dumper.proofs.Due.{left_made, left_kept, dumper_cuts, made_from, kept_from}
use Rattle.muck_dumper.proofs.deeds.watches.Goals as goal

pub returns-then-is_dead-clause-kept : goal.returns-then-is_dead-clause-kept
returns-then-is_dead-clause-kept g c = λ mounted tells v.
    died_here g.D.Disk.seen g.D.Disk.moment g.D.Disk.images g.D.Disk.faults c.args.store.now.log c.args.first.now c.args.second.now mounted c.args.world.now c.died.new.self 9 v c.died.ensures

pub returns-then-is_stopping-clause-made : goal.returns-then-is_stopping-clause-made
returns-then-is_stopping-clause-made g c = left_made c.leaves.result c.args.world.now c.leaves.new.world c.leaves.ensures

pub returns-then-is_stopping-clause-kept : goal.returns-then-is_stopping-clause-kept
returns-then-is_stopping-clause-kept g c =
    left_kept g.D.Disk.tells g.D.Disk.seen g.D.Disk.moment g.D.Disk.images g.D.Disk.faults c.args.store.now c.args.first.now c.args.second.now c.leaves.result c.args.world.now c.leaves.new.world c.leaves.ensures

pub begin-requires-clause-may : goal.begin-requires-clause-may
begin-requires-clause-may g c =
    let same = c.if-idle.ensures.step in
    dumper_cuts (now c.idle.new.self) (ap (λ (h : History). (now h).dead) same ∙ sym c.is_dead.ensures.dead ∙ c.if-is_dead.false) (ap (λ (h : History). (now h).dumps.running) same ∙ c.requires.idle)
    (ap (λ (h : History). is_lawful (now h) (by 9 Idle)) c.if-idle.ensures.step ∙ sym c.if-idle.ensures.lawful)

pub begin-requires-clause-knows : goal.begin-requires-clause-knows
begin-requires-clause-knows g c = subst (λ (h : History). Knows c.args.store.now h) (sym c.if-idle.ensures.step) c.requires.knows

pub returns-in-Err-clause-made : goal.returns-in-Err-clause-made
returns-in-Err-clause-made g c =
    made_from Died c.args.world.now c.idle.new.self c.begin.new.world c.if-idle.ensures.step
    (with_note (note_of g.D.Disk.moment g.D.Disk.faults c.args.first.now c.args.second.now c.idle.new.self) refl c.in-Err.ensures.died)

pub returns-in-Err-clause-kept : goal.returns-in-Err-clause-kept
returns-in-Err-clause-kept g c = λ mounted tells v.
    c.in-Err.ensures.safe mounted tells (subst (λ (h : History). Keeps g.D.Disk.seen g.D.Disk.moment g.D.Disk.images g.D.Disk.faults c.args.store.now.log c.args.first.now c.args.second.now mounted h) (sym c.if-idle.ensures.step) v)

pub returns-in-Ok-clause-made : goal.returns-in-Ok-clause-made
returns-in-Ok-clause-made g c =
    made_from (Cut c.in-Ok.pending.number) c.args.world.now c.idle.new.self c.begin.new.world c.if-idle.ensures.step
    (with_note (note_of g.D.Disk.moment g.D.Disk.faults c.args.first.now c.args.second.now c.idle.new.self) refl c.in-Ok.ensures.step)

pub returns-in-Ok-clause-kept : goal.returns-in-Ok-clause-kept
returns-in-Ok-clause-kept g c =
    kept_from g.D.Disk.tells g.D.Disk.seen g.D.Disk.moment g.D.Disk.images g.D.Disk.faults c.args.store.now c.args.first.now c.args.second.now c.in-Ok.pending c.args.world.now c.idle.new.self c.begin.new.world c.if-idle.ensures.step
    (cut_runs c.idle.new.self c.begin.new.world (note_of g.D.Disk.moment g.D.Disk.faults c.args.first.now c.args.second.now c.idle.new.self) 9 c.in-Ok.pending.number c.in-Ok.ensures.step) c.in-Ok.ensures.batch c.in-Ok.ensures.pending c.in-Ok.ensures.number
