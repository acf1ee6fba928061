use Rattle.std.proofs.Common.{◌++◌, ◌∷◌, [], ◌-◌, ◌∙◌, ap, map, sym, arith}
use Rattle.std.proofs.lemmas.List.{map-append}
use Rattle.muck_laws.proofs.Places.{none_past}
use Rattle.muf_model.specs.inner.View.{view}
use Rattle.muf_debug.proofs.Seen.{stack_more}
use Rattle.muf_debug.proofs.view.stack_of.Goals as goal

pub loop-depth-preserved : goal.loop-depth-preserved
loop-depth-preserved c = (
  omega (arith, c.loop-depth.invariant.0, c.loop-depth-test.true),
  stack_more (c.loop-depth.depth - 1) c.loop-depth.depth c.args.frame.now.stack c.in-Some.value.now (map view c.loop-depth.items.items) (map view c.push.new.self.items) (omega (arith, c.loop-depth-test.true)) c.in-Some.ensures c.loop-depth.invariant.1
      (ap (map view) c.in_ok-push-in-Some.ensures.items ∙ map-append view c.loop-depth.items.items (c.in_ok-copy-in-Some.field-0 ∷ []) ∙ ap (λ d. map view c.loop-depth.items.items ++ d ∷ []) c.in_ok-copy-in-Some.ensures),
)

pub unreachable-requires : goal.unreachable-requires
unreachable-requires c =
    let past = none_past c.args.frame.now.stack (c.loop-depth.depth - 1) (sym c.in-None.ensures) in
    omega (arith, past, c.loop-depth.invariant.0, c.loop-depth-test.true)
