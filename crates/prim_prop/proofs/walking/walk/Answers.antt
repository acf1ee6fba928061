use Rattle.std.proofs.Common.{◌≡◌, [], ◌∷◌, Some, ap, rules}
use Rattle.std.specs.Option.{option_map_or}
use Rattle.muck_prop.specs.Paths.{path_text}
use Rattle.muf_model.specs.Datum.{text}
use Rattle.muf_model.specs.inner.View.{view}
use Rattle.muf_frame.specs.inner.Shown.{flat}
use Rattle.muck_perm.specs.inner.Guards.{world_of}
use Rattle.spec_prims.specs.PropRows.{next_read}
use Rattle.prim_prop.specs.inner.Asked.{named_in}
use Rattle.prim_prop.specs.inner.Walks.{begun}
use Rattle.prim_prop.proofs.Steps.{walk_row, made_items}
use Rattle.prim_prop.proofs.walking.walk.Goals as goal

pub returns : goal.returns
returns c =
    let g = c.args.guard.now in
    let stack = (flat c.args.frame.now).stack in
    let d = c.in-Some.object in
    let t = c.in-Some.text.now in
    let found : named_in stack ≡ Some (d.0, t) = search rules in
    let name : view c.in_ok-name.name ≡ text (option_map_or path_text (next_read g.actor d (begun c.in_ok-start.start) (world_of g)) []) = search rules in
    made_items _ g _ _ (walk_row g.actor stack (world_of g) d.0 t c.in_ok-start.start found c.in_ok-start.ensures) (ap (λ x. x ∷ []) name)
