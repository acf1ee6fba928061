use Rattle.std.proofs.Common.{◌≡◌, take}
use Rattle.std.specs.List.{flat_map}
use Rattle.spec_events.specs.Hooked.{calls_of}
use Rattle.muck_turns.proofs.state.State.calls.Given as goal

abbrev pub invariant-loop-cause : goal.invariant-loop-cause
invariant-loop-cause l = l.calls.items ≡ flat_map (calls_of l.self.live.objects) (take l.cause-index l.causes)
