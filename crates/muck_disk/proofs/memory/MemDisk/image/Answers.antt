use Rattle.std.proofs.Common.{◌≡◌, rules}
use Rattle.muck_disk.specs.inner.Replay.{image_at}
use Rattle.muck_disk.proofs.Tears.{image_left_at}
use Rattle.muck_disk.proofs.memory.MemDisk.image.Goals as goal

pub returns-clause-left : goal.returns-clause-left
returns-clause-left c =
    let disk = c.args.self.now in
    let is : c.of.result ≡ image_at c.args.kept c.args.torn disk.first.items disk.calls.items c.args.moment = search rules in
    image_left_at c.args.kept c.args.torn disk.first.items disk.calls.items c.args.moment c.of.result disk.within is
