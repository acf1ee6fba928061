use Rattle.std.proofs.Common.{◌≡◌, ◌<◌, ◌-◌, length, map, true, false, sym, ◌∙◌, arith, rules}
use Rattle.std.specs.Prelude.{slice_get}
use Rattle.std.proofs.lemmas.List.{length-map}
use Rattle.muf_model.specs.inner.View.{view}
use Rattle.muf_frame.specs.inner.Shown.{flat_mark, locked_by}
use Rattle.prim_stack.specs.inner.Does.{mark_in}
use Rattle.prim_stack.proofs.Tops.{nearest_here, nearest_further}
use Rattle.prim_stack.proofs.marks.nearest_mark.Goals as goal

pub returns-then-is_mark_at-clause-value : goal.returns-then-is_mark_at-clause-value
returns-then-is_mark_at-clause-value c =
    let s = map view c.args.frame.now.stack in
    let l = locked_by (map flat_mark c.args.frame.now.marks) in
    let h : c.loop-at.at < length s - l = search (rules, c.loop-at-test.true, c.depth-depth.ensures.value, length-map) in
    let m : mark_in (slice_get s c.loop-at.at) ≡ true = sym c.is_mark_at.ensures ∙ search (rules, c.if-is_mark_at.true) in
    nearest_here l c.loop-at.at s h c.loop-at.invariant.1 m

pub loop-at-preserved : goal.loop-at-preserved
loop-at-preserved c =
    let s = map view c.args.frame.now.stack in
    let l = locked_by (map flat_mark c.args.frame.now.marks) in
    let t : c.loop-at.at < c.depth-depth.result = search (rules, c.loop-at-test.true) in
    let h : c.loop-at.at < length s - l = search (rules, c.loop-at-test.true, c.depth-depth.ensures.value, length-map) in
    let m : mark_in (slice_get s c.loop-at.at) ≡ false = sym c.is_mark_at.ensures ∙ search (rules, c.if-is_mark_at.false) in
    (omega (arith, t), nearest_further l c.loop-at.at s h c.loop-at.invariant.1 m)
