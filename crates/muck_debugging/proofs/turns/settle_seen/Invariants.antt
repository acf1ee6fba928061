use Rattle.muck_script.proofs.Stories.{IsOnTheWay}
use Rattle.muck_debugging.proofs.Watched.{IsTold}
use Rattle.muck_debugging.proofs.turns.settle_seen.Given as goal

abbrev pub invariant-loop-done : goal.invariant-loop-done
invariant-loop-done g l = record {
  way : IsOnTheWay 4096 l.done l.fn.world l.world;
  told : IsTold g.W.Watch.tells 4096 l.done l.fn.world l.world l.fn.watch l.watch;
}
