use Rattle.std.proofs.Common.{ap, arith, List, length, false}
use Rattle.muck_model.specs.declared.dbref.Dbref.{Dbref}
use Rattle.spec_live.specs.Objects.{Entry}
use Rattle.muck_db.specs.inner.Slots.{entries_of}
use Rattle.muck_db.proofs.Bridge.{sound_order, listed_short}
use Rattle.muck_db.proofs.db.Db.contents.Goals as goal

pub list_of-requires : goal.list_of-requires
list_of-requires c = sound_order _ c.self.invariant.kept.sound

pub returns-clause-short : goal.returns-clause-short
returns-clause-short c = omega (
  arith,
  ap (λ (l : List Dbref). length l) c.list_of.ensures,
  listed_short (entries_of c.self.inside.slots.items) false c.args.d c.self.invariant.kept.sound.world.ordered,
  ap (λ (z : List Entry). length z) c.self.view_is,
)
