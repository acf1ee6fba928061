use denote.Param.Send.{sendable}
use Rattle.muck_crew.proofs.Sending.{turn_sync, seat_send}
use Rattle.muck_crew.proofs.beside.work_each.Goals as goal

pub for_each_mut-requires-send-T : goal.for_each_mut-requires-send-T
for_each_mut-requires-send-T g c κs within = search (sendable, seat_send) depth 20

pub for_each_mut-requires-sync-F : goal.for_each_mut-requires-sync-F
for_each_mut-requires-sync-F g c κs within =
    let w = c.type_bounds.sync-W in let a = c.type_bounds.sync-G in let b = c.type_bounds.sync-R in search (sendable, turn_sync) depth 20
