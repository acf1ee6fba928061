use Rattle.muck_crew.specs.inner.Runs.{FineTo}
use Rattle.muck_crew.proofs.serving.why_of_workers.Given as goal

abbrev pub invariant-loop-part : goal.invariant-loop-part
invariant-loop-part l = FineTo l.part-index l.parts
