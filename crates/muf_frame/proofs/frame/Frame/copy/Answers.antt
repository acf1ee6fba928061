use Rattle.std.proofs.Common.{◌≡◌, ap, sym, refl, ◌∙◌, map, reverse, arith}
use Rattle.muck_laws.proofs.Turned.{map_reversed}
use Rattle.muf_model.specs.inner.View.{view}
use Rattle.muf_frame.specs.inner.Shown.{flat_mark, outer_of, locked_by, calls_by, opened_by}
use Rattle.muf_frame.proofs.Alike.{guards_fit}
use Rattle.muf_frame.proofs.frame.Frame.copy.Goals as goal

pub invariant_of-result : goal.invariant_of-result
invariant_of-result c =
    let e : map flat_mark c.in_ok-marks.marks.items ≡ map flat_mark c.self.inside.marks.items = c.in_ok-marks.ensures.items ∙ ap (map flat_mark) c.deref-5.ensures.value in
    let o : map outer_of c.in_ok-marks.marks.items ≡ map outer_of c.self.inside.marks.items = c.in_ok-marks.ensures.outer ∙ ap (map outer_of) c.deref-5.ensures.value in
    let m : map flat_mark (reverse c.in_ok-marks.marks.items) ≡ map flat_mark (reverse c.self.inside.marks.items) = map_reversed flat_mark c.in_ok-marks.marks.items c.self.inside.marks.items e in
    (c.in_ok-stack.ensures.capacity, omega (arith, c.in_ok-stack.ensures.len, c.deref.ensures.len, c.self.invariant.1), c.in_ok-marks.ensures.capacity, c.in_ok-marks.ensures.len ∙ c.deref-5.ensures.len ∙ c.self.invariant.3, c.self.invariant.4, c.self.invariant.5, c.self.invariant.6, c.self.invariant.7 ∙ ap locked_by (sym m), c.self.invariant.8 ∙ ap calls_by (sym m), c.self.invariant.9 ∙ ap opened_by (sym m), guards_fit (reverse c.in_ok-marks.marks.items) (reverse c.self.inside.marks.items) m (map_reversed outer_of c.in_ok-marks.marks.items c.self.inside.marks.items o) c.self.invariant.10)

pub returns-clause-data : goal.returns-clause-data
returns-clause-data c =
    let e : map flat_mark c.in_ok-marks.marks.items ≡ map flat_mark c.self.inside.marks.items = c.in_ok-marks.ensures.items ∙ ap (map flat_mark) c.deref-5.ensures.value in
    let s : map view c.in_ok-stack.stack.items ≡ map view c.self.inside.stack.items = c.in_ok-stack.ensures.items ∙ ap (map view) c.deref.ensures.value in
    rw (← c.self.view_is, map_reversed view c.in_ok-stack.stack.items c.self.inside.stack.items s, map_reversed flat_mark c.in_ok-marks.marks.items c.self.inside.marks.items e, c.in_ok-common.ensures.items, c.deref-2.ensures.value, c.in_ok-owned.ensures, c.deref-3.ensures.value, c.in_ok-variables.ensures.items, c.deref-4.ensures.value) refl
