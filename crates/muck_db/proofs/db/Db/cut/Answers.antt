use Rattle.std.proofs.Common.{sym, subst, List, arith}
use Rattle.spec_live.specs.Objects.{Entry}
use Rattle.spec_live.specs.Saving.{pending}
use Rattle.muck_store.specs.inner.Changes.{KeepsUndue, LeavesOut}
use Rattle.muck_store.specs.Forms.{persist}
use Rattle.muck_db.proofs.Readers.{length-entries_of}
use Rattle.muck_db.proofs.Bridge.{sound_order}
use Rattle.muck_db.proofs.Dumping.{kept_passed, passes_all}
use Rattle.muck_db.proofs.Tying.{ties_passed}
use Rattle.muck_db.proofs.db.Db.cut.Goals as goal

pub records_of-requires-clause-order : goal.records_of-requires-clause-order
records_of-requires-clause-order c = sound_order _ c.self.invariant.kept.sound

pub records_of-requires-clause-limits : goal.records_of-requires-clause-limits
records_of-requires-clause-limits c = c.self.invariant.kept.sound.limits

pub records_of-requires-clause-may : goal.records_of-requires-clause-may
records_of-requires-clause-may c = subst (λ (es : List Entry). KeepsUndue c.args.base.now es) (sym c.self.view_is) c.requires.kept

pub pass-requires : goal.pass-requires
pass-requires c = omega (arith, length-entries_of c.self.inside.slots.items, c.self.invariant.kept.sound.world.ordered.few)

pub invariant_of-self : goal.invariant_of-self
invariant_of-self c = record { kept = kept_passed pending _ _ _ _ _ c.pass.ensures c.self.invariant.kept; tied = ties_passed pending _ _ _ c.pass.ensures c.self.invariant.tied }

pub returns-clause-records : goal.returns-clause-records
returns-clause-records c = subst (λ (es : List Entry). LeavesOut c.args.base.now (persist es) c.in_ok-records.records) c.self.view_is c.in_ok-records.ensures.records

pub returns-clause-objects : goal.returns-clause-objects
returns-clause-objects c = passes_all pending _ _ _ c.self.view_is c.pass.ensures
