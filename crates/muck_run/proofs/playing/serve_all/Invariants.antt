use Rattle.std.proofs.Common.{◌≡◌}
use Rattle.spec_dumps.specs.inner.Holding.{Quietly}
use Rattle.spec_live.specs.Connections.{connections_most}
use Rattle.muck_script.specs.Story.{served}
use Rattle.muck_run.specs.inner.Opens.{Opens}
use Rattle.muck_run.proofs.Towards.{IsServing}
use Rattle.muck_run.proofs.playing.serve_all.Given as goal

abbrev pub invariant-loop-d : goal.invariant-loop-d
invariant-loop-d g l = record {
  serving : IsServing (served connections_most 1) l.d l.fn.world l.world (g.K.Sink.written l.fn.out) (g.K.Sink.written l.out);
  quiet : Quietly l.fn.world l.world;
  opened : Opens l.most l.world;
  fine : g.K.Sink.faults l.out ≡ g.K.Sink.faults l.fn.out;
}
