use Rattle.std.proofs.Common.{◌++◌, ◌∷◌, [], ◌∙◌, ap, map, arith}
use Rattle.std.proofs.lemmas.List.{map-append}
use Rattle.muf_model.specs.inner.View.{view}
use Rattle.muf_frame.specs.inner.Shown.{flat}
use Rattle.muf_debug.proofs.Seen.{scope_more, scope_whole}
use Rattle.muf_debug.proofs.view.scope_of.Goals as goal

pub returns-in-None : goal.returns-in-None
returns-in-None c =
    scope_whole c.loop-number.number (flat c.args.frame.now) (map view c.loop-number.items.items) c.loop-number.invariant.first c.loop-number.invariant.taken (c.in-None.ensures 0)

pub loop-number-preserved : goal.loop-number-preserved
loop-number-preserved c = record {
  first = omega (arith, c.loop-number.invariant.first);
  taken = scope_more c.loop-number.number (flat c.args.frame.now) (view c.in-Some.value.now) (map view c.loop-number.items.items) (map view c.push.new.self.items) c.loop-number.invariant.first c.loop-number.invariant.taken (c.in-Some.ensures 0)
      (ap (map view) c.in_ok-push-in-Some.ensures.items ∙ map-append view c.loop-number.items.items (c.in_ok-copy-in-Some.field-0 ∷ []) ∙ ap (λ d. map view c.loop-number.items.items ++ d ∷ []) c.in_ok-copy-in-Some.ensures);
}
