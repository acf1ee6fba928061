use Rattle.std.proofs.Common.{sym, subst}
use Rattle.muck_model.specs.Parameters.{first_tune, IsInRange}
use Rattle.muck_model.proofs.Parameters.{in_range, first_fits}
use Rattle.spec_live.specs.Stood.{IsStill}
use Rattle.muck_turns.specs.inner.Hooks.{AreTold}
use Rattle.muck_machine.proofs.Keepings.{told_first, still_first}
use Rattle.muck_machine.proofs.world.World.starting.Goals as goal

pub boot-requires-clause-tune : goal.boot-requires-clause-tune
boot-requires-clause-tune c = subst IsInRange (sym c.first.ensures) (in_range first_tune first_fits)

pub boot-requires-clause-told : goal.boot-requires-clause-told
boot-requires-clause-told c = subst AreTold (sym c.in_ok-db.ensures) told_first

pub boot-requires-clause-still : goal.boot-requires-clause-still
boot-requires-clause-still c = subst IsStill (sym c.in_ok-db.ensures) still_first
