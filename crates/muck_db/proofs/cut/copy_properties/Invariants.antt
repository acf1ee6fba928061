use Rattle.std.proofs.Common.{◌≡◌, ◌++◌, map}
use Rattle.std.specs.Prelude.{All}
use Rattle.std.specs.Vec.Iter.{into_iter_items}
use Rattle.muck_store.specs.Forms.{properties_of}
use Rattle.muck_db.specs.inner.Kept.{MayHold, property_at}
use Rattle.muck_db.proofs.cut.copy_properties.Given as goal

abbrev pub invariant-loop-listed : goal.invariant-loop-listed
invariant-loop-listed l = record {
  whole : l.list.items ++ map property_at (into_iter_items l.listed-iterator) ≡ properties_of l.props;
  held : All MayHold l.list.items;
}
