use Rattle.std.proofs.Common.{rules, ◌≡◌, ◌<◌, ◌-◌, ◌∙◌, refl, reverse, slice_set, length}
use Rattle.muf_frame.specs.inner.Counting.{with_next}
use Rattle.muf_frame.proofs.Counting.{counted_in_place, counted_fits}
use Rattle.muf_frame.proofs.frame.Frame.set_next.Goals as goal

pub invariant_of-self : goal.invariant_of-self
invariant_of-self c =
    let n : c.len-count.result ≡ length c.self.inside.marks.items = search (rules, c.len-count.ensures) in
    let p : 0 < c.len-count.result = search (rules, c.if-count-gt0.true) in
    let e : reverse (slice_set c.self.inside.marks.items (c.len-count.result - 1) c.count_on.new.mark) ≡ with_next c.args.next (reverse c.self.inside.marks.items) = counted_in_place c.args.next c.len-count.result c.self.inside.marks.items c.index_mut.result.now c.count_on.new.mark n p c.index_mut.ensures.value c.count_on.ensures in
    let k = counted_fits c.args.next (reverse c.self.inside.marks.items) (reverse (slice_set c.self.inside.marks.items (c.len-count.result - 1) c.count_on.new.mark)) e in
    (c.self.invariant.0, c.self.invariant.1, c.self.invariant.2, c.self.invariant.3, c.self.invariant.4, c.self.invariant.5, c.self.invariant.6, c.self.invariant.7 ∙ k.0, c.self.invariant.8 ∙ k.1, c.self.invariant.9 ∙ k.2, k.3 c.self.invariant.10)

pub returns-then-count-gt0 : goal.returns-then-count-gt0
returns-then-count-gt0 c =
    let n : c.len-count.result ≡ length c.self.inside.marks.items = search (rules, c.len-count.ensures) in
    let p : 0 < c.len-count.result = search (rules, c.if-count-gt0.true) in
    let e : reverse (slice_set c.self.inside.marks.items (c.len-count.result - 1) c.count_on.new.mark) ≡ with_next c.args.next (reverse c.self.inside.marks.items) = counted_in_place c.args.next c.len-count.result c.self.inside.marks.items c.index_mut.result.now c.count_on.new.mark n p c.index_mut.ensures.value c.count_on.ensures in
    rw (← c.self.view_is, e) refl
