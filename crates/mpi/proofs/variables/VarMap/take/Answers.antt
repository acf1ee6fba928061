use Rattle.std.proofs.Common.{sym, ◌∙◌}
use Rattle.std.specs.FinMap.{get, remove}
use Rattle.mpi.proofs.Maps.{get_is, removed}
use Rattle.mpi.proofs.variables.VarMap.take.Goals as goal

pub returns-clause-had : goal.returns-clause-had
returns-clause-had c = c.remove.ensures.value ∙ sym (get_is c.args.name.now c.self.inside.values.entries) ∙ (λ i. get (c.self.view_is i) c.args.name.now)

pub returns-clause-taken : goal.returns-clause-taken
returns-clause-taken c =
    removed c.args.name.now c.self.inside.values.entries c.remove.new.self.entries c.remove.ensures.updates.0
    ∙ (λ i. remove (c.self.view_is i) c.args.name.now)
