use Rattle.std.proofs.Common.{not, ap, ◌∙◌, rules}
use Rattle.spec_dumps.specs.Fronts.{file_most}
use Rattle.muck_dumping.proofs.Mounting.{no_log, risen, stays_none, stands_again, mounting_fault}
use Rattle.muck_dumping.proofs.store.Store.mount.Goals as goal

pub returns-in_ok-mount-clause-knows : goal.returns-in_ok-mount-clause-knows
returns-in_ok-mount-clause-knows g c = λ h known. record { marks = λ on x is. cc; number = λ none. cc }

pub returns-in_err-mount-clause-keeps : goal.returns-in_err-mount-clause-keeps
returns-in_err-mount-clause-keeps g c = λ mounted h tells r.
    stays_none g.D.Disk.seen g.D.Disk.moment g.D.Disk.images g.D.Disk.faults mounted c.args.self.now.log (no_log c.args.self.now.log (c.is_none.ensures ∙ ap not c.if-is_none.true)) _ _ _ _ h r
    (c.mount.ensures.first_any tells) (c.mount.ensures.second_any tells) c.mount.ensures.first_later c.mount.ensures.second_later

pub returns-in_err-mount-clause-fault : goal.returns-in_err-mount-clause-fault
returns-in_err-mount-clause-fault g c = λ mounted h tells r.
    let k = mounting_fault g.D.Disk.seen g.D.Disk.moment g.D.Disk.images g.D.Disk.faults mounted _ _ _ h r (g.met.D.Disk.seen_left c.args.first.now tells) (g.met.D.Disk.seen_left c.args.second.now tells) _ (c.in_err-mount.ensures.err tells) in search rules

pub returns-in_err-mount-clause-risen : goal.returns-in_err-mount-clause-risen
returns-in_err-mount-clause-risen g c = λ mounted h tells r broke.
    risen g.D.Disk.seen g.D.Disk.moment g.D.Disk.images g.D.Disk.faults mounted _ _ _ _ _ h r (search rules)

pub returns-in_ok-mount-clause-keeps : goal.returns-in_ok-mount-clause-keeps
unfolding file_most
returns-in_ok-mount-clause-keeps g c = λ mounted h tells r.
    stands_again g.D.Disk.seen g.D.Disk.moment g.D.Disk.images g.D.Disk.faults mounted c.args.self.now.log (no_log c.args.self.now.log (c.is_none.ensures ∙ ap not c.if-is_none.true)) _ _ _ _ h r
    (c.mount.ensures.first_any tells) (c.mount.ensures.second_any tells) c.mount.ensures.first_later c.mount.ensures.second_later
    c.in_ok-mount.field-0 (c.in_ok-mount.ensures.ok tells) (g.met.D.Disk.seen_left c.mount.new.first tells) (g.met.D.Disk.seen_left c.mount.new.second tells)
