use Rattle.muck_db.proofs.Bridge.{sound_order}
use Rattle.muck_db.proofs.db.Db.next_listed.Goals as goal

pub next_listed-requires : goal.next_listed-requires
next_listed-requires c = sound_order _ c.self.invariant.kept.sound
