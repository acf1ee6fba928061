use Rattle.std.proofs.Common.{◌∙◌, sym, arith}
use Rattle.muck_queue.proofs.Known.{second_due, second_waiting, seconds_more}
use Rattle.muck_queue.proofs.processes.soonest.Goals as goal
use Rattle.muck_queue.proofs.processes.soonest.Goals.{then-is_timed, else-is_timed}

pub loop-p-preserved : goal.loop-p-preserved
loop-p-preserved c =
    elim c.if-is_timed.branch [
      | then-is_timed w ↦
          rw w.soonest-is (seconds_more _ _ _ _ _ c.loop-p-test.true c.p-item.is (omega (arith, w.min-soonest.ensures)) (second_due w.min-soonest.result c.p-item.result (omega (arith, w.min-soonest.ensures))) c.loop-p.invariant)
      | else-is_timed w ↦
          rw w.soonest-is (seconds_more _ _ _ _ _ c.loop-p-test.true c.p-item.is (omega arith) (second_waiting _ c.p-item.result (sym c.is_timed.ensures ∙ w.if-is_timed.false)) c.loop-p.invariant)
    ]
