use Rattle.std.proofs.Common.{◌≡◌, [], ◌∷◌, Some, ap, rules}
use Rattle.spec_live.specs.Objects.{object_at}
use Rattle.muf_model.specs.inner.View.{view}
use Rattle.muf_frame.specs.inner.Shown.{flat}
use Rattle.muck_perm.specs.inner.Guards.{objects_of, world_of}
use Rattle.prim_prop.specs.inner.Asked.{named_in}
use Rattle.prim_prop.specs.inner.Looks.{look_of}
use Rattle.prim_prop.proofs.Steps.{look_row, past_leave, made_items}
use Rattle.prim_prop.proofs.looking.look_at.Goals as goal

pub returns : goal.returns
returns c =
    let g = c.args.guard.now in
    let stack = (flat c.args.frame.now).stack in
    let look = look_of c.args.what in
    let d = c.in-Some.object in
    let t = c.in-Some.text.now in
    let path = c.in_ok-path.path in
    let found : named_in stack ≡ Some (d.0, t) = search rules in
    let item : view c.in_ok-item.item ≡ look (object_at d (objects_of g)) path = search rules in
    let row = look_row look g.actor stack (world_of g) d.0 t path found c.in_ok-path.ensures.0 c.in_ok-path.ensures.1 in
    made_items _ g _ _ (past_leave _ _ _ row c.in_ok-permit_reading.ensures) (ap (λ x. x ∷ []) item)
