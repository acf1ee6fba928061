use Rattle.std.proofs.Common.{arith}
use Rattle.muck_db.proofs.Readers.{length-entries_of}
use Rattle.muck_db.proofs.db.Db.moves.Goals as goal

pub moves_of-requires : goal.moves_of-requires
moves_of-requires c = omega (arith, length-entries_of c.self.inside.slots.items, c.self.invariant.kept.sound.world.ordered.few)
