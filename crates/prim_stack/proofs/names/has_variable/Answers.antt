use Rattle.std.proofs.Common.{is_some, ap}
use Rattle.prim_stack.proofs.names.has_variable.Goals as goal

pub returns-in-Some : goal.returns-in-Some
returns-in-Some c = ap is_some (c.in-Some.ensures 0)

pub returns-in-None : goal.returns-in-None
returns-in-None c = ap is_some (c.in-None.ensures 0)
