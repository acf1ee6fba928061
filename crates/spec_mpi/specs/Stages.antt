-- A world in which somebody acts.
use Rattle.std.specs.Prelude.{[], pos}
use Rattle.muck_model.specs.Numbers.{dbref_numbered}
use Rattle.spec_live.specs.Boards.{first_tune, early_board}
use Rattle.spec_live.specs.Lives.{Live}
use Rattle.spec_rights.specs.declared.act.Actor.{Actor}

pub record MpiStage : Type 0 where
  pub actor : Actor
  pub live : Live

-- nothing is there
unfoldable pub bare : MpiStage
bare = record { actor = record { level = 0; user = dbref_numbered (pos 0); player = dbref_numbered (pos 0) }; live = record { objects = []; board = early_board 0 first_tune } }
