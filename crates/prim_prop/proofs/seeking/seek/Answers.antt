use Rattle.std.proofs.Common.{◌≡◌, Some, sym, subst, rules}
use Rattle.muf_frame.specs.inner.Shown.{flat}
use Rattle.muck_perm.specs.inner.Guards.{world_of}
use Rattle.prim_common.specs.inner.Applied.{Makes}
use Rattle.prim_prop.specs.inner.Asked.{named_in}
use Rattle.prim_prop.specs.inner.Looks.{form_of}
use Rattle.prim_prop.proofs.Steps.{seek_row}
use Rattle.prim_prop.proofs.seeking.seek.Goals as goal

pub returns : goal.returns
returns c =
    let g = c.args.guard.now in
    let stack = (flat c.args.frame.now).stack in
    let d = c.in-Some.object in
    let t = c.in-Some.text.now in
    let found : named_in stack ≡ Some (d.0, t) = search rules in
    let row = seek_row (form_of c.args.form) g.actor stack (world_of g) d.0 t c.in_ok-path.path found c.in_ok-path.ensures.0 c.in_ok-path.ensures.1 in
    subst (λ row. Makes row g g c.seek_from.result) (sym row) c.seek_from.ensures
