use Rattle.std.proofs.Common.{◌≡◌, length}
use Rattle.muck_io.proofs.Appended.{IsPart}
use Rattle.muck_io.proofs.sink.write_all.Given as goal

abbrev pub invariant-loop-rest : goal.invariant-loop-rest
invariant-loop-rest g l = IsPart l.bytes l.rest (g.K.Sink.written l.fn.out) (g.K.Sink.written l.out) × (g.K.Sink.faults l.out ≡ g.K.Sink.faults l.fn.out)

abbrev pub decreases-loop-rest : goal.decreases-loop-rest
decreases-loop-rest g l = length l.rest
