use Rattle.std.proofs.Common.{◌≡◌, drop}
use Rattle.spec_events.specs.Hooked.{started_all}
use Rattle.muck_turns.proofs.state.State.start_all.Given as goal

-- what starts the rest from here starts all from the start
abbrev pub invariant-loop-call : goal.invariant-loop-call
invariant-loop-call l = started_all (drop l.call-index l.calls) l.self ≡ started_all l.calls l.fn.self
