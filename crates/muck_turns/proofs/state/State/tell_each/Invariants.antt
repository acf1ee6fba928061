use Rattle.std.proofs.Common.{◌≡◌, drop}
use Rattle.spec_events.specs.World.{on_live}
use Rattle.spec_events.specs.Dumping.{told_each}
use Rattle.muck_turns.proofs.state.State.tell_each.Given as goal

-- what those that are left are told leads to what all are told
abbrev pub invariant-loop-d : goal.invariant-loop-d
invariant-loop-d l = on_live (told_each (drop l.d-index l.connections) l.text) l.self ≡ on_live (told_each l.connections l.text) l.fn.self
