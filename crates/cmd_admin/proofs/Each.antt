-- A change for each of a list, one after another.
use Rattle.std.proofs.Common.{◌≡◌, ℕ, List, ◌∙◌, ap, Result, Ok, Err}
use Rattle.muck_model.specs.declared.memory.NoMemory.{NoMemory}
use Rattle.muck_model.specs.declared.tune.Tune.{Tune}
use Rattle.muck_model.specs.declared.tune.Parameter.{Parameter}
use Rattle.muck_model.specs.Parameters.{parameters}
use Rattle.spec_live.specs.Lives.{Change, reading}
use Rattle.spec_commands.specs.Finding.{for_each}
use Rattle.spec_admin.specs.Lines.{parameter_shown, parameters_shown}
use Rattle.muck_perm.specs.declared.guard.Guard.{Guard}
use Rattle.muck_perm.specs.inner.Guards.{Did, world_of}

-- all parameters
pub all_shown : (d : ℕ) (tune : Tune) (ps : List Parameter) (old new : Guard) (r : Result (Unit {0}) NoMemory) → ps ≡ parameters → tune ≡ (world_of old).board.tune →
    Did (for_each (parameter_shown d tune) ps) old new r → Did (parameters_shown d) old new r
unfolding parameters_shown reading
all_shown d tune ps old new (Ok u) all now t =
    let shown : for_each (parameter_shown d tune) ps ≡ for_each (parameter_shown d (world_of old).board.tune) parameters =
    ap (for_each (parameter_shown d tune)) all ∙ ap (λ x. for_each (parameter_shown d x) parameters) now in
    (t.0 ∙ ap (λ (f : Change). f (world_of old)) shown, t.1)
all_shown d tune ps old new (Err e) all now t = t
