use Rattle.std.proofs.Common.{rules, ◌≡◌, Some, None, ap, ◌∙◌}
use Rattle.std.specs.Prelude.{slice_get}
use Rattle.muck_perm.specs.inner.Guards.{objects_of}
use Rattle.muf_model.specs.StackRows.{truth_item}
use Rattle.spec_prims.specs.ObjectRows as row
use Rattle.prim_db.proofs.Items.{item_found, item_missing}
use Rattle.prim_db.proofs.finding.of_item.Goals as goal

pub returns-in-Some : goal.returns-in-Some
returns-in-Some c =
    let g = c.args.guard.now in
    let seen : slice_get c.args.frame.now.stack 0 ≡ Some c.in-Some.item.now = search rules in
    item_found (row.kind_asked c.args.prim) g.actor (objects_of g) c.args.frame.now.stack c.in-Some.item.now c.truth.result seen (c.truth.ensures ∙ ap truth_item c.is_such.ensures)

pub returns-in-None : goal.returns-in-None
returns-in-None c =
    let g = c.args.guard.now in
    let seen : slice_get c.args.frame.now.stack 0 ≡ None = search rules in
    item_missing (row.kind_asked c.args.prim) g.actor (objects_of g) c.args.frame.now.stack seen
