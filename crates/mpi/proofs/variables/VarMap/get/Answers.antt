use Rattle.std.proofs.Common.{sym, ◌∙◌}
use Rattle.std.specs.FinMap.{get}
use Rattle.mpi.proofs.Maps.{get_is}
use Rattle.mpi.proofs.variables.VarMap.get.Goals as goal

pub returns : goal.returns
returns c = c.get.ensures.value ∙ sym (get_is c.args.name.now c.self.inside.values.entries) ∙ (λ i. get (c.self.view_is i) c.args.name.now)
