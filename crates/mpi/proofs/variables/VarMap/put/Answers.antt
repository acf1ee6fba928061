use Rattle.std.proofs.Common.{◌∙◌}
use Rattle.std.specs.FinMap.{insert}
use Rattle.mpi.proofs.Maps.{inserted}
use Rattle.mpi.proofs.variables.VarMap.put.Goals as goal

pub returns-clause-ok : goal.returns-clause-ok
returns-clause-ok c =
    inserted c.args.name c.args.value c.self.inside.values.entries c.insert.new.self.entries c.in_ok-insert.ensures.updates.0
    ∙ (λ i. insert (c.self.view_is i) c.args.name c.args.value)
