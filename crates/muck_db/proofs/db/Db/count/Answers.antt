use Rattle.std.proofs.Common.{ap, arith, subst, List, length}
use Rattle.spec_live.specs.Objects.{Entry}
use Rattle.muck_db.specs.inner.Limits.{IsWithinLimits}
use Rattle.muck_db.proofs.Readers.{length-entries_of}
use Rattle.muck_db.proofs.db.Db.count.Goals as goal

pub overflow_cast-result : goal.overflow_cast-result
overflow_cast-result c = omega (arith, c.len.ensures, length-entries_of c.self.inside.slots.items, c.self.invariant.kept.sound.world.ordered.few)

pub returns-clause-count : goal.returns-clause-count
returns-clause-count c = omega (arith, c.len.ensures, length-entries_of c.self.inside.slots.items, ap (λ (z : List Entry). length z) c.self.view_is)

pub returns-clause-most : goal.returns-clause-most
returns-clause-most c = omega (arith, c.len.ensures, length-entries_of c.self.inside.slots.items, c.self.invariant.kept.sound.world.ordered.few)

pub returns-clause-limits : goal.returns-clause-limits
returns-clause-limits c = subst IsWithinLimits c.self.view_is c.self.invariant.kept.sound.limits
