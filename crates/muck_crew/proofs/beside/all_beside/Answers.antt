use denote.Param.Send.{IsSend, param_send}
use Rattle.muck_crew.proofs.Sending.{lent}
use Rattle.muck_crew.proofs.beside.all_beside.Lts as lts
use Rattle.muck_crew.proofs.beside.all_beside.Goals as goal

-- with the closure's type written out, since a search finds none for it
pub join_mut-requires-send-F : goal.join_mut-requires-send-F
join_mut-requires-send-F g c κs within =
    let l = c.type_bounds.send-L in let k = c.type_bounds.send-C in let w = c.type_bounds.sync-W in let a = c.type_bounds.sync-G in
    let f : IsSend (lts.arg-0-1 g.row.W g.row.L g.row.C g.row.D g.row.G g.row.R g.W.laws g.L.laws g.C.laws g.D.laws g.G.laws g.R.laws g.W.Threads-dict g.W.Wait-dict g.L.Links-dict g.C.Clock-dict g.D.Disk-dict g.G.Gate-dict g.R.Rest-dict κs) = search lent depth 20 in
    param_send 1 _ f
