use Rattle.std.proofs.Common.{◌≡◌}
use Rattle.spec_events.specs.Following.{settled}
use Rattle.muck_turns.proofs.Settling.{marks}
use Rattle.muck_turns.proofs.state.State.settle.Given as goal

abbrev pub invariant-loop-changed : goal.invariant-loop-changed
invariant-loop-changed l = settled l.self ≡ settled l.initial.self

abbrev pub decreases-loop-changed : goal.decreases-loop-changed
decreases-loop-changed l = marks l.self.live.objects
