use Rattle.std.proofs.Common.{Some}
use Rattle.spec_talks.specs.Counts.{counts}
use Rattle.muck_crew.proofs.StoreKnowing.{knows_new}
use Rattle.muck_server.proofs.Called.{alive_then, may_then, keeps_then, dump_then}
use Rattle.muck_server.proofs.serving.stop.Goals as goal

pub dump-answer-requires-clause-alive : goal.dump-answer-requires-clause-alive
dump-answer-requires-clause-alive g c = alive_then (counts (g.L.Links.told c.args.links.now).sessions) c.args.world.now c.halt.new.world c.halt.ensures c.requires.alive

pub dump-answer-requires-clause-may : goal.dump-answer-requires-clause-may
dump-answer-requires-clause-may g c = may_then (counts (g.L.Links.told c.args.links.now).sessions) c.args.world.now c.halt.new.world c.halt.ensures c.requires.fresh

pub dump-answer-requires-clause-mounted : goal.dump-answer-requires-clause-mounted
dump-answer-requires-clause-mounted g c =
    keeps_then g.D.Disk.tells g.D.Disk.seen g.D.Disk.moment g.D.Disk.images g.D.Disk.faults (Some c.args.log) c.new-store.result.log c.args.first.now c.args.second.now (counts (g.L.Links.told c.args.links.now).sessions) c.args.world.now c.halt.new.world c.halt.ensures c.new-store.ensures.log
    c.requires.mounted

pub dump-answer-requires-clause-knows : goal.dump-answer-requires-clause-knows
dump-answer-requires-clause-knows g c = knows_new c.new-store.result c.args.log c.halt.new.world c.new-store.ensures.log c.new-store.ensures.marks

pub returns-clause-dump : goal.returns-clause-dump
returns-clause-dump g c =
    let d = c.dump-answer in
    dump_then g.D.Disk.tells g.D.Disk.seen g.D.Disk.moment g.D.Disk.images g.D.Disk.faults (Some c.args.log) c.new-store.result.log c.args.first.now c.args.second.now (counts (g.L.Links.told c.args.links.now).sessions) c.args.world.now c.halt.new.world c.halt.ensures c.new-store.ensures.log
    d.new.store.log d.new.first d.new.second d.new.world d.result d.ensures.happened d.ensures.kept d.ensures.cause d.ensures.apart
