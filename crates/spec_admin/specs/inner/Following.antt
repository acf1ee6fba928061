-- What may follow a line of a keeper.
use Rattle.std.specs.Prelude.{◌≡◌, true}
use Rattle.muck_model.specs.declared.tune.Tune.{Tune}
use Rattle.spec_rights.specs.declared.act.Actor.{Actor}
use Rattle.spec_rights.specs.Verdict.{is_master}
use Rattle.spec_commands.specs.declared.outcome.Outcome.{Outcome}
use Rattle.spec_commands.specs.declared.outcome.Outcome.TheVariants.{Done, NotMine, Dump, Stop, Retune}
use Rattle.muck_model.specs.Parameters.{IsInRange}

-- By a wizard alone the world is dumped, stopped or tuned, and what was in its range stays so. Nothing else follows.
abbrev pub MayFollow : Actor → Tune → Outcome → Type 0
MayFollow a tune Done = Unit {0}
MayFollow a tune NotMine = Unit {0}
MayFollow a tune Dump = is_master a ≡ true
MayFollow a tune Stop = is_master a ≡ true
MayFollow a tune (Retune next) = (is_master a ≡ true) × (IsInRange tune → IsInRange next)
MayFollow a tune outcome = ⊥
