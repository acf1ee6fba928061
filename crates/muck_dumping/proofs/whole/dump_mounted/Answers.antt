use Rattle.std.proofs.Common.{refl, ap, sym, ◌∙◌, None, Ok, Err}
use Rattle.muck_model.specs.declared.event.Event.TheVariants.{Stored}
use Rattle.spec_events.specs.Histories.{now}
use Rattle.muck_dumping.specs.inner.Dumps.{by, Dies}
use Rattle.muck_dumping.proofs.Marks.{goes_noted}
use Rattle.muck_dumping.proofs.Knowing.{knows_stored, knows_failed}
use Rattle.muck_dumping.proofs.Steps.{cut_lives, cut_runs}
use Rattle.muck_dumping.proofs.AtOnce.{may_makes, dies_cut, dies_ending, fault_ends, never_damaged, some_not_none}
use Rattle.muck_dumping.proofs.Beginning.{died_here}
use Rattle.muck_dumping.proofs.Mounting.{ready_mounted}
use Rattle.muck_dumping.proofs.Ending.{dumps_stored, dumps_failed, dumps_dead}
use Rattle.muck_dumping.proofs.whole.dump_mounted.Goals as goal

pub returns-in_default-clause-happened : goal.returns-in_default-clause-happened
returns-in_default-clause-happened g c = Dies.begun _ c.in_default.ensures.died

pub returns-in_default-clause-kept : goal.returns-in_default-clause-kept
returns-in_default-clause-kept g c = λ mounted tells v. dumps_dead g.D.Disk.seen g.D.Disk.moment g.D.Disk.images g.D.Disk.faults _ _ _ mounted _ _ (c.in_default.ensures.safe mounted tells v)

pub end-requires-clause-alive : goal.end-requires-clause-alive
end-requires-clause-alive g c = cut_lives _ _ _ _ _ c.in-Ok.ensures.step c.requires.alive

pub end-requires-clause-runs : goal.end-requires-clause-runs
end-requires-clause-runs g c = cut_runs _ _ _ _ _ c.in-Ok.ensures.step

pub returns-in-Ok-end-clause-kept : goal.returns-in-Ok-end-clause-kept
returns-in-Ok-end-clause-kept g c = λ mounted tells v.
    dumps_stored g.D.Disk.seen g.D.Disk.moment g.D.Disk.images g.D.Disk.faults c.write.new.store.log c.write.new.first c.write.new.second mounted c.begin.new.world (λ x. g.met.D.Disk.seen_left x tells) c.args.party c.in-Ok.pending.number c.args.world.now _ c.in-Ok.ensures.step c.end.new.world c.in-Ok-end.ensures.step
    (c.in-Ok-write.ensures.written mounted c.begin.new.world tells (c.in-Ok.ensures.pending mounted tells (ready_mounted g.D.Disk.seen g.D.Disk.moment g.D.Disk.images g.D.Disk.faults mounted c.args.store.now.log c.args.first.now c.args.second.now c.args.world.now c.requires.some v)))

pub returns-in-Ok-end-clause-knows : goal.returns-in-Ok-end-clause-knows
returns-in-Ok-end-clause-knows g c =
    knows_stored c.write.new.store c.end.new.world c.in-Ok-write.ensures.some
    (goes_noted c.write.new.store.marks c.write.new.store.log c.begin.new.world c.end.new.world _ (by c.args.party (Stored c.in-Ok.pending.number)) refl c.in-Ok-end.ensures.step (c.write.ensures.marks _ _ c.in-Ok.ensures.batch))

pub returns-in-Ok-end-2-clause-knows : goal.returns-in-Ok-end-2-clause-knows
returns-in-Ok-end-2-clause-knows g c =
    knows_failed c.write.new.store c.end-in_default-fault.new.world c.in-Ok.pending.number c.in-Err.ensures.none (c.in-Err.ensures.number ∙ sym c.in-Ok.ensures.number) (c.in-Ok-end-2.ensures.last refl)

pub returns-in-Err-end-clause-happened : goal.returns-in-Err-end-clause-happened
returns-in-Err-end-clause-happened g c = dies_ending c.args.party _ _ _ _ _ _ c.in-Ok.ensures.step c.in-Err-end.ensures.died

pub returns-in-Err-end-clause-kept : goal.returns-in-Err-end-clause-kept
returns-in-Err-end-clause-kept g c = λ mounted tells v.
    dumps_dead g.D.Disk.seen g.D.Disk.moment g.D.Disk.images g.D.Disk.faults _ _ _ mounted _ _ (c.in-Err-end.ensures.safe mounted c.write.new.store.log (Ok tt) tells (c.in-Ok-write.ensures.written mounted c.begin.new.world tells (c.in-Ok.ensures.pending mounted tells (ready_mounted g.D.Disk.seen g.D.Disk.moment g.D.Disk.images g.D.Disk.faults mounted c.args.store.now.log c.args.first.now c.args.second.now c.args.world.now c.requires.some v))))

pub returns-in-NoMemory-clause-happened : goal.returns-in-NoMemory-clause-happened
returns-in-NoMemory-clause-happened g c = dies_cut c.args.party _ _ _ _ _ c.in-Ok.ensures.step c.died.ensures

pub returns-in-NoMemory-clause-kept : goal.returns-in-NoMemory-clause-kept
returns-in-NoMemory-clause-kept g c = λ mounted tells v.
    dumps_dead g.D.Disk.seen g.D.Disk.moment g.D.Disk.images g.D.Disk.faults _ _ _ mounted _ _ (died_here g.D.Disk.seen g.D.Disk.moment g.D.Disk.images g.D.Disk.faults None c.write.new.first c.write.new.second mounted c.begin.new.world c.died.new.self c.args.party
    (c.in-Err.ensures.written mounted c.begin.new.world tells (c.in-Ok.ensures.pending mounted tells (ready_mounted g.D.Disk.seen g.D.Disk.moment g.D.Disk.images g.D.Disk.faults mounted c.args.store.now.log c.args.first.now c.args.second.now c.args.world.now c.requires.some v))).keeps c.died.ensures)

pub end-requires-in_default-fault : goal.end-requires-in_default-fault
end-requires-in_default-fault g c = record { alive = cut_lives _ _ _ _ _ c.in-Ok.ensures.step c.requires.alive; makes = may_makes (now c.args.world.now) c.args.party c.requires.may; runs = cut_runs _ _ _ _ _ c.in-Ok.ensures.step }

pub returns-in-Ok-end-2-clause-kept : goal.returns-in-Ok-end-2-clause-kept
returns-in-Ok-end-2-clause-kept g c = λ mounted tells v.
    let pend = (c.in-Ok.ensures.pending mounted tells (ready_mounted g.D.Disk.seen g.D.Disk.moment g.D.Disk.images g.D.Disk.faults mounted c.args.store.now.log c.args.first.now c.args.second.now c.args.world.now c.requires.some v)) in
    let w = c.in-Err.ensures.written mounted c.begin.new.world tells pend in
    dumps_failed g.D.Disk.seen g.D.Disk.moment g.D.Disk.images g.D.Disk.faults c.write.new.store.log c.write.new.first c.write.new.second mounted c.begin.new.world (λ x. g.met.D.Disk.seen_left x tells) c.args.party c.in-Ok.pending.number c.args.world.now _ c.in-Ok.ensures.step c.end-in_default-fault.new.world c.in-Ok-end-2.ensures.step c.in-Err.fault
    (λ is. some_not_none c.args.store.now.log c.requires.some (c.in-Err.ensures.stale mounted c.begin.new.world tells pend (ap Err is))) w
    (fault_ends c.in-Err.fault c.in_default-fault.not-NoMemory (never_damaged g.D.Disk.seen g.D.Disk.moment g.D.Disk.images g.D.Disk.faults c.write.new.store.log c.write.new.first c.write.new.second mounted c.begin.new.world c.in-Err.fault w))

pub returns-in-Err-end-2 : goal.returns-in-Err-end-2
returns-in-Err-end-2 g c = record {
  happened = dies_ending c.args.party _ _ _ _ _ _ c.in-Ok.ensures.step c.in-Err-end-2.ensures.died;
  knows = tt;
  kept = λ mounted tells v.
      dumps_dead g.D.Disk.seen g.D.Disk.moment g.D.Disk.images g.D.Disk.faults _ _ _ mounted _ _ (c.in-Err-end-2.ensures.safe mounted c.write.new.store.log (Err c.in-Err.fault) tells (c.in-Err.ensures.written mounted c.begin.new.world tells (c.in-Ok.ensures.pending mounted tells (ready_mounted g.D.Disk.seen g.D.Disk.moment g.D.Disk.images g.D.Disk.faults mounted c.args.store.now.log c.args.first.now c.args.second.now c.args.world.now c.requires.some v))));
  first_attached = c.write.ensures.first_attached;
  second_attached = c.write.ensures.second_attached;
  first_later = c.write.ensures.first_later;
  second_later = c.write.ensures.second_later;
  cause = tt;
  apart = tt;
}
