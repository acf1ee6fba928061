use Rattle.std.proofs.Common.{◌≡◌, take}
use Rattle.muf_token.proofs.memory.copy_defs.Given as goal

abbrev pub invariant-loop-definition : goal.invariant-loop-definition
invariant-loop-definition l = l.copy ≡ take l.definition-index l.list
