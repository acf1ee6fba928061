use Rattle.std.proofs.Common.{Some, ap, ◌∙◌}
use Rattle.prim_stack.proofs.names.copy_variable.Goals as goal

pub returns-in_ok-copy-in-Some : goal.returns-in_ok-copy-in-Some
returns-in_ok-copy-in-Some c = ap Some c.in_ok-copy-in-Some.ensures ∙ c.in-Some.ensures 0
