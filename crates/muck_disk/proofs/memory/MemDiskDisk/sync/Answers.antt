use Rattle.std.proofs.Common.{ap, true, reverse}
use Rattle.muck_disk.specs.Images.{Same}
use Rattle.muck_disk.specs.inner.Replay.{seen_after}
use Rattle.muck_disk.specs.inner.Memory.{seen_in}
use Rattle.muck_disk.specs.declared.memory.Call.TheVariants.{Synced}
use Rattle.muck_disk.proofs.Calls.{goes_to}
use Rattle.muck_disk.proofs.memory.MemDiskDisk.sync.Goals as goal

pub returns-clause-time : goal.returns-clause-time
returns-clause-time c =
    let was = c.args.self.now in
    goes_to was.first.items c.note.new.self.first.items was.calls.items c.note.new.self.calls.items (Synced true) Same (ap (λ v. v.items) c.note.ensures.same.0) c.in-Ok.ensures.ok
    (λ x is. (seen_after was.first.items (reverse was.calls.items), seen_in was.first.items (reverse was.calls.items) was.within, is))
