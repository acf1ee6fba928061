use Rattle.std.proofs.Common.{◌≡◌, ◌++◌, ◌≤◌}
use Rattle.muck_run.specs.Drill.{rounds}
use Rattle.muck_run.proofs.drilling.push_rounds.Given as goal

abbrev pub invariant-loop-done : goal.invariant-loop-done
invariant-loop-done l = record { pushed : l.acts.items ≡ l.fn.acts.items ++ rounds l.done; within : l.done ≤ l.count }
