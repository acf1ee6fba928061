use Rattle.std.proofs.Common.{◌≡◌, ◌∙◌, true, rules}
use Rattle.prim_stack.proofs.names.put_variable.Goals as goal

pub returns : goal.returns
returns c =
    let e : c.set_variable-there.result ≡ true = c.set_variable-there.ensures.found 0 ∙ c.requires in
    c.set_variable-there.ensures.yes (search (rules, e))
