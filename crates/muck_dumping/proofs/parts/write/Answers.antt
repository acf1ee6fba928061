use Rattle.muck_dumping.proofs.Writing.{written_by, stale_unmounted}
use Rattle.muck_dumping.proofs.parts.write.Goals as goal

pub returns-clause-written : goal.returns-clause-written
returns-clause-written g c = λ mounted h tells v.
    written_by g.D.Disk.seen g.D.Disk.moment g.D.Disk.images g.D.Disk.faults mounted h c.args.pending c.args.first.now c.args.second.now c.append.new.first c.append.new.second c.append.new.self.log c.append.result (λ x. g.met.D.Disk.seen_left x tells) c.args.store.now.log v
    (λ log es tune is. c.append.ensures.wrote log es tune tells is) c.append.ensures.stale c.append.ensures.none c.append.ensures.first_later c.append.ensures.second_later c.append.ensures.cause

pub returns-clause-stale : goal.returns-clause-stale
returns-clause-stale g c = λ mounted h tells v is.
    stale_unmounted g.D.Disk.seen g.D.Disk.moment g.D.Disk.images g.D.Disk.faults mounted h c.args.pending c.args.first.now c.args.second.now c.append.new.first c.append.new.second c.append.new.self.log c.append.result c.args.store.now.log v
    (λ log es tune is. c.append.ensures.wrote log es tune tells is) is
