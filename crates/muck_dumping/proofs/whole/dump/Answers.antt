use Rattle.std.proofs.Common.{ap, ◌∙◌, Err}
use Rattle.muck_dumping.specs.inner.Dumps.{Dies}
use Rattle.muck_dumping.proofs.Ending.{dumps_dead}
use Rattle.muck_dumping.proofs.Mounting.{is_disk}
use Rattle.muck_dumping.proofs.Beginning.{died_here}
use Rattle.muck_dumping.proofs.whole.dump.Goals as goal

pub dump_mounted-requires-clause-mounted : goal.dump_mounted-requires-clause-mounted
dump_mounted-requires-clause-mounted g c = λ tells. let there = c.requires.mounted tells in (there.0, c.mount.ensures.keeps there.0 c.args.world.now tells there.1)

pub dump_mounted-requires-clause-knows : goal.dump_mounted-requires-clause-knows
dump_mounted-requires-clause-knows g c = c.mount.ensures.knows c.args.world.now c.requires.knows

pub dump_unmounted-requires-clause-knows : goal.dump_unmounted-requires-clause-knows
dump_unmounted-requires-clause-knows g c = c.mount.ensures.knows c.args.world.now c.requires.knows

pub returns-in-Ok-clause-kept : goal.returns-in-Ok-clause-kept
returns-in-Ok-clause-kept g c = λ mounted tells v. c.dump_mounted.ensures.kept mounted tells (c.mount.ensures.keeps mounted c.args.world.now tells v)

pub returns-in-NoMemory-clause-happened : goal.returns-in-NoMemory-clause-happened
returns-in-NoMemory-clause-happened g c = Dies.first c.died.ensures

pub returns-in-NoMemory-clause-kept : goal.returns-in-NoMemory-clause-kept
returns-in-NoMemory-clause-kept g c = λ mounted tells v.
    dumps_dead g.D.Disk.seen g.D.Disk.moment g.D.Disk.images g.D.Disk.faults _ _ _ mounted _ _ (died_here g.D.Disk.seen g.D.Disk.moment g.D.Disk.images g.D.Disk.faults _ _ _ mounted _ _ _ (c.mount.ensures.keeps mounted c.args.world.now tells v) c.died.ensures)

pub returns-in_default-clause-kept : goal.returns-in_default-clause-kept
returns-in_default-clause-kept g c = λ mounted tells v.
    let is = is_disk c.in-Err.fault c.in_default.not-NoMemory (c.in-Err.ensures.fault mounted c.args.world.now tells v) in
    c.dump_unmounted.ensures.kept mounted tells is (record { keeps = c.mount.ensures.keeps mounted c.args.world.now tells v; risen = λ none. c.in-Err.ensures.risen mounted c.args.world.now tells v (ap Err is) })

pub returns-in-Ok-clause-first_attached : goal.returns-in-Ok-clause-first_attached
returns-in-Ok-clause-first_attached g c = c.dump_mounted.ensures.first_attached ∙ c.mount.ensures.first_attached

pub returns-in-Ok-clause-second_attached : goal.returns-in-Ok-clause-second_attached
returns-in-Ok-clause-second_attached g c = c.dump_mounted.ensures.second_attached ∙ c.mount.ensures.second_attached
