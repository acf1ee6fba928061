use Rattle.std.proofs.Common.{arith}
use Rattle.spec_live.specs.Saving.{saving_done}
use Rattle.muck_db.proofs.Readers.{length-entries_of}
use Rattle.muck_db.proofs.Dumping.{kept_passed, passes_all}
use Rattle.muck_db.proofs.Tying.{ties_passed}
use Rattle.muck_db.proofs.db.Db.stored.Goals as goal

pub pass-requires : goal.pass-requires
pass-requires c = omega (arith, length-entries_of c.self.inside.slots.items, c.self.invariant.kept.sound.world.ordered.few)

pub invariant_of-self : goal.invariant_of-self
invariant_of-self c = record { kept = kept_passed saving_done _ _ _ _ _ c.pass.ensures c.self.invariant.kept; tied = ties_passed saving_done _ _ _ c.pass.ensures c.self.invariant.tied }

pub returns : goal.returns
returns c = passes_all saving_done _ _ _ c.self.view_is c.pass.ensures
