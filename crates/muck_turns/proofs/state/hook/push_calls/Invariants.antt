use Rattle.std.proofs.Common.{◌≡◌, ◌++◌, take, map}
use Rattle.spec_events.specs.Hooked.{call_of}
use Rattle.muck_turns.proofs.state.hook.push_calls.Given as goal

abbrev pub invariant-loop-fire : goal.invariant-loop-fire
invariant-loop-fire l = l.calls.items ≡ l.initial.calls.items ++ map (call_of l.cause) (take l.fire-index l.fires)
