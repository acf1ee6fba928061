use Rattle.std.proofs.Common.{map, ap, sym, ◌∙◌, ◌∷◌, [], ◌++◌, ◌+◌, ◌-◌, ◌≡◌, length, drop, reverse, arith}
use Rattle.std.specs.Prelude.{pos}
use Rattle.std.proofs.lemmas.List.{map-append}
use Rattle.muck_laws.proofs.Turned.{turned_more}
use Rattle.muf_model.specs.Datum.{int}
use Rattle.muf_model.specs.inner.View.{view}
use Rattle.muf_model.specs.ArrayRows.{entries_in}
use Rattle.muf_array.specs.inner.Shapes.{part_of}
use Rattle.muf_array.proofs.rows.parts.Goals as goal

pub loop-at-preserved : goal.loop-at-preserved
loop-at-preserved c =
    let es = entries_in (view c.args.held.now) in
    let xs = map (part_of c.args.part) es in
    let x = view c.in_ok-item.item in
    let z : c.loop-at.at - 1 + 1 ≡ c.loop-at.at = omega (arith, c.loop-at-test.true) in (
      omega (arith, c.loop-at.invariant.0),
      omega (arith, c.loop-at.invariant.1),
      ap (map view) c.in_ok-push-2.ensures.items
          ∙ map-append view c.loop-at.items.items (c.in_ok-item.item ∷ [])
          ∙ ap (λ r. r ++ x ∷ []) c.loop-at.invariant.2
          ∙ ap (λ r. int (pos (length es)) ∷ r) (ap (λ k. reverse (drop k xs) ++ x ∷ []) (sym z) ∙ sym (turned_more xs (c.loop-at.at - 1) x c.in_ok-item.ensures)),
    )
