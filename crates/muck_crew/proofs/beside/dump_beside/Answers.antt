use denote.RattleType.{RattleType}
use denote.Param.Send.{IsSend, IsSync, param_send}
use Rattle.muck_crew.specs.contracts.beside.dump_beside as rows
use Rattle.muck_crew.proofs.Sending.{lent}
use Rattle.muck_crew.proofs.beside.dump_beside.Lts as lts
use Rattle.muck_crew.proofs.beside.dump_beside.Goals as goal

-- What the dumper is lent, by its bounds alone: among all that is known where it is called a search finds it too late.
dumper_sent : (W D G R : RattleType) (lw : _) (ld : _) (lg : _) (lr : _) (a : _) (b : _) (c : _) (d : _) (e : _) (κs : _) → IsSend (rows.D-row W D G R) → IsSync (rows.W-row W D G R) → IsSync (rows.G-row W D G R) → IsSync (rows.R-row W D G R) → IsSend (lts.arg-0-1 W D G R lw ld lg lr a b c d e κs)
dumper_sent W D G R lw ld lg lr a b c d e κs send-D sync-W sync-G sync-R = search lent depth 20

-- with the closure's type written out, since a search finds none for it
pub join_mut-why-requires-send-F : goal.join_mut-why-requires-send-F
join_mut-why-requires-send-F g c κs within =
    let t = c.type_bounds in
    param_send 1 _
    (dumper_sent g.row.W g.row.D g.row.G g.row.R g.W.laws g.D.laws g.G.laws g.R.laws g.W.Threads-dict g.W.Wait-dict g.D.Disk-dict g.G.Gate-dict g.R.Rest-dict κs t.send-D t.sync-W t.sync-G t.sync-R)
