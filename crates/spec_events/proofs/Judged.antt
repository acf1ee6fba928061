-- Each unit of a slice is licensed.
use Rattle.std.proofs.Common.{ℕ, ℤ}
use Rattle.std.specs.Prelude.{All}
use Rattle.std.proofs.lemmas.List.Elements.{All-nil, All-cons}
use Rattle.muck_model.specs.declared.tune.Tune.{Tune}
use Rattle.muf_model.specs.Source.{Source}
use Rattle.spec_events.specs.declared.starting.Agent.{Agent}
use Rattle.spec_events.specs.World.{World}
use Rattle.spec_events.specs.Slices.{unit_taken, unit_of, units_run}
use Rattle.spec_events.specs.Licences.{UnitLicensed}
use Rattle.spec_events.proofs.Endings.{IsTold}
use Rattle.spec_events.proofs.Slicing.{run_holds}
use Rattle.spec_events.proofs.Formulas.{notes_turn}
use Rattle.spec_events.proofs.Remaining.{leaves_turn}
use Rattle.spec_events.proofs.Taken.{opens_turn, told_turn}

unit_licensed : (tune : Tune) (pid : ℤ) (x : Agent) (s : Source) (w : World) → IsTold w.live → UnitLicensed pid (unit_of x s w (unit_taken tune pid x s w))
unit_licensed tune pid x s w told = ((opens_turn tune pid x s w).licensed, leaves_turn tune pid x s w told, notes_turn tune pid x s w told)

pub units_licensed : (tune : Tune) (pid : ℤ) (n : ℕ) (w : World) → IsTold w.live → All (UnitLicensed pid) (units_run tune n pid w)
units_licensed tune pid n w =
    run_holds tune pid (λ v ts. IsTold v.live → All (UnitLicensed pid) ts)
    (λ v told. All-nil (UnitLicensed pid))
    (λ v x s ts e h told. All-cons (UnitLicensed pid) (unit_of x s v (unit_taken tune pid x s v)) ts (unit_licensed tune pid x s v told) (h (told_turn tune pid x s v told)))
    n w
