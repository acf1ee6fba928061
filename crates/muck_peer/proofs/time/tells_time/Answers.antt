use Rattle.std.proofs.Common.{arith}
use Rattle.spec_events.specs.Histories.{now}
use Rattle.spec_events.proofs.Reached.{moment_lawful}
use Rattle.muck_peer.proofs.time.tells_time.Goals as goal

pub moment-requires : goal.moment-requires
moment-requires g c =
    let before = c.now-before.ensures c.requires in
    let t = c.max-t.ensures in
    moment_lawful (now c.args.world.now) c.max-t.result c.requires (omega arith)
