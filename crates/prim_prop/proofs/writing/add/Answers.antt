use Rattle.std.proofs.Common.{◌≡◌, ◌∙◌, drop, Some, ap, sym, subst, rules}
use Rattle.muf_frame.specs.inner.Shown.{flat}
use Rattle.muck_perm.specs.inner.Guards.{world_of}
use Rattle.spec_prims.specs.PropRows.{property_put_at, text_or}
use Rattle.prim_common.specs.inner.Applied.{Makes}
use Rattle.prim_prop.specs.inner.Asked.{named_in, added_by}
use Rattle.prim_prop.proofs.Taken.{added_so}
use Rattle.prim_prop.proofs.writing.add.Goals as goal

pub returns : goal.returns
returns c =
    let g = c.args.guard.now in
    let stack = (flat c.args.frame.now).stack in
    let n = c.in-Some.number in
    let u = c.in-Some.value.now in
    let d = c.in-Some-named.object in
    let t = c.in-Some-named.text.now in
    let kept : added_by stack ≡ Some (n, u) = search rules in
    let found : named_in (drop 2 stack) ≡ Some (d.0, t) = search rules in
    let value : text_or u n ≡ c.in_ok-value.value = search rules in
    let row = added_so g.actor stack (world_of g) n u d.0 t kept found ∙ ap (λ v. property_put_at g.actor t d.0 v (world_of g)) value in
    subst (λ row. Makes row g c.put_at.new.guard c.put_at.result) (sym row) c.put_at.ensures
