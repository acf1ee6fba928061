use Rattle.std.proofs.Common.{refl, sym, ◌∙◌, Err}
use Rattle.muck_log.specs.declared.fault.LogFault.TheVariants.{Stale}
use Rattle.muck_dumping.specs.inner.Dumps.{Dies}
use Rattle.muck_dumping.proofs.Knowing.{next_unmounted, knows_failed}
use Rattle.muck_dumping.proofs.Steps.{cut_lives, cut_runs}
use Rattle.muck_dumping.proofs.AtOnce.{dies_ending, pending_unmounted, disk_unmounted}
use Rattle.muck_dumping.proofs.Ending.{dumps_unmounted, dumps_dead}
use Rattle.muck_dumping.proofs.whole.dump_unmounted.Goals as goal

pub returns-in-Ok-end-clause-knows : goal.returns-in-Ok-end-clause-knows
returns-in-Ok-end-clause-knows g c =
    knows_failed c.args.store.now c.end.new.world c.in-Ok.pending.number c.requires.unmounted (sym (c.in-Ok.ensures.number ∙ next_unmounted c.args.store.now c.requires.unmounted)) (c.in-Ok-end.ensures.last refl)

pub returns-in_default-clause-happened : goal.returns-in_default-clause-happened
returns-in_default-clause-happened g c = Dies.begun _ c.in_default.ensures.died

pub returns-in_default-clause-kept : goal.returns-in_default-clause-kept
returns-in_default-clause-kept g c = λ mounted tells is v. dumps_dead g.D.Disk.seen g.D.Disk.moment g.D.Disk.images g.D.Disk.faults _ _ _ mounted _ _ (c.in_default.ensures.safe mounted tells v.keeps)

pub end-requires-clause-alive : goal.end-requires-clause-alive
end-requires-clause-alive g c = cut_lives _ _ _ _ _ c.in-Ok.ensures.step c.requires.alive

pub end-requires-clause-runs : goal.end-requires-clause-runs
end-requires-clause-runs g c = cut_runs _ _ _ _ _ c.in-Ok.ensures.step

pub returns-in-Ok-end-clause-kept : goal.returns-in-Ok-end-clause-kept
returns-in-Ok-end-clause-kept g c = λ mounted tells is v.
    disk_unmounted g.D.Disk.seen g.D.Disk.moment g.D.Disk.images g.D.Disk.faults c.args.store.now.log c.args.first.now c.args.second.now mounted c.end.new.world c.args.fault is
    (dumps_unmounted g.D.Disk.seen g.D.Disk.moment g.D.Disk.images g.D.Disk.faults c.args.store.now.log c.args.first.now c.args.second.now mounted c.begin.new.world (λ x. g.met.D.Disk.seen_left x tells) c.args.party c.in-Ok.pending.number c.args.world.now _ c.in-Ok.ensures.step c.end.new.world c.in-Ok-end.ensures.step
    (pending_unmounted g.D.Disk.seen g.D.Disk.moment g.D.Disk.images g.D.Disk.faults c.args.store.now.log c.args.first.now c.args.second.now mounted c.begin.new.world c.in-Ok.pending c.requires.unmounted (c.in-Ok.ensures.pending mounted tells v)))

pub returns-clause-happened : goal.returns-clause-happened
returns-clause-happened g c = dies_ending c.args.party _ _ _ _ _ _ c.in-Ok.ensures.step c.in-Err.ensures.died

pub returns-clause-kept : goal.returns-clause-kept
returns-clause-kept g c = λ mounted tells is v.
    dumps_dead g.D.Disk.seen g.D.Disk.moment g.D.Disk.images g.D.Disk.faults _ _ _ mounted _ _ (c.in-Err.ensures.safe mounted c.args.store.now.log (Err Stale) tells
    (pending_unmounted g.D.Disk.seen g.D.Disk.moment g.D.Disk.images g.D.Disk.faults c.args.store.now.log c.args.first.now c.args.second.now mounted c.begin.new.world c.in-Ok.pending c.requires.unmounted (c.in-Ok.ensures.pending mounted tells v)))
