use Rattle.std.proofs.Common.{map, ap, sym, ◌∙◌, ◌∷◌, [], ◌++◌, ◌+◌, ◌-◌, ◌≡◌, take, drop, reverse, arith}
use Rattle.std.proofs.lemmas.List.{map-append}
use Rattle.muck_laws.proofs.Turned.{turned_more}
use Rattle.muf_model.specs.inner.View.{view}
use Rattle.muf_frame.specs.inner.Shown.{flat}
use Rattle.muf_array.proofs.Counting.{counted_item}
use Rattle.muf_array.proofs.making.copies.Goals as goal

pub loop-at-preserved : goal.loop-at-preserved
loop-at-preserved c =
    let xs = take c.args.n (drop 1 (flat c.args.frame.now).stack) in
    let x = view c.in_ok-item.item in
    let z : c.loop-at.at - 1 + 1 ≡ c.loop-at.at = omega (arith, c.loop-at-test.true) in (
      omega (arith, c.loop-at.invariant.0),
      ap (map view) c.in_ok-push.ensures.items
          ∙ map-append view c.loop-at.items.items (c.in_ok-item.item ∷ [])
          ∙ ap (λ r. r ++ x ∷ []) c.loop-at.invariant.1
          ∙ ap (λ k. reverse (drop k xs) ++ x ∷ []) (sym z)
          ∙ sym (turned_more xs (c.loop-at.at - 1) x (counted_item c.args.n c.loop-at.at (flat c.args.frame.now).stack x (omega (arith, c.loop-at-test.true)) c.loop-at.invariant.0 c.in_ok-item.ensures)),
    )
