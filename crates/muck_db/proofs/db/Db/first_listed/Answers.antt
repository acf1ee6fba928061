use Rattle.muck_db.proofs.Bridge.{sound_order}
use Rattle.muck_db.proofs.db.Db.first_listed.Goals as goal

pub first_listed-requires : goal.first_listed-requires
first_listed-requires c = sound_order _ c.self.invariant.kept.sound
