use Rattle.std.proofs.Common.{◌≡◌, length, map, reverse, ap, ◌∙◌, ◌∷◌, arith}
use Rattle.std.proofs.lemmas.List.{length-map}
use Rattle.muf_model.specs.inner.View.{view}
use Rattle.muf_frame.specs.inner.Shown.{Shown, flat}
use Rattle.muf_running.proofs.Process.{handed_at}
use Rattle.muf_running.proofs.running.Running.hand.Goals as goal

pub invariant_of-self : goal.invariant_of-self
invariant_of-self c =
    let f : Shown = c.self.inside.frame in
    let count : length (map view f.stack) ≡ length f.stack = length-map f.stack view in
    let there : length c.get.result.now.stack ≡ length f.stack = ap (λ (x : Shown). length x.stack) c.get.ensures in
    let pushed = c.push_item.ensures ∙ ap (λ (x : Shown). record x { stack = c.args.item ∷ x.stack }) c.get_mut.ensures.value in
    (handed_at (reverse c.self.inside.programs.items) (flat f) (flat c.push_item.new.self) (view c.args.item) c.self.invariant (omega (arith, count, there, c.len.ensures.value, c.if-len-lt-STACK_MOST.true)) (ap flat pushed)).0
