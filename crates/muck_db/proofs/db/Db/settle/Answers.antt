use Rattle.std.proofs.Common.{arith}
use Rattle.muck_db.proofs.Readers.{length-entries_of}
use Rattle.muck_db.proofs.Moved.{held_rested, rests_all}
use Rattle.muck_db.proofs.db.Db.settle.Goals as goal

pub settle-requires : goal.settle-requires
settle-requires c = omega (arith, length-entries_of c.self.inside.slots.items, c.self.invariant.kept.sound.world.ordered.few)

pub invariant_of-self : goal.invariant_of-self
invariant_of-self c = held_rested _ _ _ _ _ _ c.settle.ensures c.self.invariant

pub returns : goal.returns
returns c = rests_all _ _ _ c.self.view_is c.settle.ensures
