use Rattle.std.proofs.Common.{sym, subst, Option}
use Rattle.muck_log.specs.Store.{LogState}
use Rattle.muck_dumper.specs.inner.Between.{IsReady as HasLog}
use Rattle.muck_dumper.proofs.StoreKnowing.{knows_new}
use Rattle.muck_crew.proofs.whole.serve_links.Goals as goal

pub run-requires-clause-knows : goal.run-requires-clause-knows
run-requires-clause-knows g c κs within = knows_new c.new-store.result c.args.log c.args.world c.new-store.ensures.log c.new-store.ensures.marks

pub finish-why-requires-clause-knows : goal.finish-why-requires-clause-knows
finish-why-requires-clause-knows g c = c.in-Ok.ensures.knows

pub finish-why-requires-clause-mounted : goal.finish-why-requires-clause-mounted
finish-why-requires-clause-mounted g c stop tells =
    let log = c.requires.mounted tells in
    let there = subst (λ (o : Option LogState). HasLog g.D.Disk.seen g.D.Disk.moment g.D.Disk.images g.D.Disk.faults o c.args.first.now c.args.second.now log.0 c.args.world) (sym c.new-store.ensures.log) log.1 in
    (log.0, c.in-Ok.ensures.ran.ready stop log.0 tells there)
