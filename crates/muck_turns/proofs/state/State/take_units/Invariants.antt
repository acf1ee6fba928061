use Rattle.std.proofs.Common.{◌≡◌}
use Rattle.spec_events.proofs.Units.{finish}
use Rattle.muck_turns.proofs.state.State.take_units.Given as goal

-- what is left to run ends as the whole does
abbrev pub invariant-loop-units : goal.invariant-loop-units
invariant-loop-units l = finish l.fn.tune l.fn.most l.fn.pid l.fn.self ≡ finish l.fn.tune l.left l.fn.pid l.self

abbrev pub decreases-loop-units : goal.decreases-loop-units
decreases-loop-units l = l.left
