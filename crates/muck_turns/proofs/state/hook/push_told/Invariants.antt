use Rattle.std.proofs.Common.{◌≡◌, ◌++◌, drop}
use Rattle.spec_hooks.specs.Told.{told}
use Rattle.muck_turns.proofs.state.hook.push_told.Given as goal

-- with what is left it is all
abbrev pub invariant-loop-moved : goal.invariant-loop-moved
invariant-loop-moved l = l.causes.items ++ told l.rest (drop l.moved-index l.moves) ≡ l.initial.causes.items ++ told l.fn.turned l.moves
