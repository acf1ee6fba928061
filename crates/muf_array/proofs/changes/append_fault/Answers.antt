use Rattle.std.proofs.Common.{◌≡◌, ap, sym, ◌∙◌, length}
use Rattle.std.specs.Arc.{arc_value}
use Rattle.std.specs.List.{insert}
use Rattle.muf_model.specs.Datum.{items, data_of}
use Rattle.muf_model.specs.inner.View.{view}
use Rattle.muf_model.specs.Values.{value_fits}
use Rattle.muf_array.specs.inner.Shapes.{fault_of, refusal}
use Rattle.muf_array.proofs.Changing.{appended_at, refusal_valued}
use Rattle.muf_array.proofs.changes.append_fault.Goals as goal

pub returns-in-Items : goal.returns-in-Items
returns-in-Items c =
    let ds = arc_value c.in-Items.list in
    let x = view c.args.item.now in
    rw c.in-Items.is (c.weighed.ensures ∙ ap fault_of (c.has_room.ensures (length ds) ∙ ap (λ es. value_fits (items (data_of (insert es (length ds) x)))) c.deref.ensures) ∙ sym (ap refusal (appended_at x ds) ∙ refusal_valued (items (data_of (insert ds (length ds) x)))))
