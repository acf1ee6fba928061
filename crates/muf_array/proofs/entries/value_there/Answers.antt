use Rattle.std.proofs.Common.{rules, ◌≡◌, None}
use Rattle.std.specs.Prelude.{slice_get}
use Rattle.muf_model.specs.inner.View.{view}
use Rattle.muf_model.specs.ArrayRows.{entries_in}
use Rattle.muf_array.specs.inner.Shapes.{values_in}
use Rattle.muf_array.proofs.Reading.{is_there}
use Rattle.muf_array.proofs.entries.value_there.Goals as goal

pub unreachable-requires : goal.unreachable-requires
unreachable-requires c =
    let g : slice_get (values_in (view c.args.held.now)) c.args.at ≡ None = search (rules, c.value_ref.ensures, c.in-None.is) in
    is_there (entries_in (view c.args.held.now)) c.args.at c.requires g
