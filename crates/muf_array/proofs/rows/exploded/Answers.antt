use Rattle.std.proofs.Common.{map, ap, sym, ◌∙◌, ◌∷◌, [], ◌++◌, ◌+◌, ◌-◌, ◌≡◌, length, drop, arith}
use Rattle.std.specs.Prelude.{pos}
use Rattle.std.proofs.lemmas.List.{map-append, append_assoc}
use Rattle.muf_model.specs.Datum.{int}
use Rattle.muf_model.specs.inner.View.{view}
use Rattle.muf_model.specs.ArrayRows.{entries_in, spread}
use Rattle.muf_array.proofs.Reading.{spread_more}
use Rattle.muf_array.proofs.rows.exploded.Goals as goal

pub loop-at-preserved : goal.loop-at-preserved
loop-at-preserved c =
    let es = entries_in (view c.args.held.now) in
    let v = view c.in_ok-value.value in
    let k = view c.in_ok-key.key in
    let z : c.loop-at.at - 1 + 1 ≡ c.loop-at.at = omega (arith, c.loop-at-test.true) in (
      omega (arith, c.loop-at.invariant.0),
      omega (arith, c.loop-at.invariant.1),
      ap (map view) (c.in_ok-push-3.ensures.items ∙ ap (λ r. r ++ c.in_ok-key.key ∷ []) c.in_ok-push-2.ensures.items ∙ append_assoc c.loop-at.items.items (c.in_ok-value.value ∷ []) (c.in_ok-key.key ∷ []))
          ∙ map-append view c.loop-at.items.items (c.in_ok-value.value ∷ c.in_ok-key.key ∷ [])
          ∙ ap (λ r. r ++ v ∷ k ∷ []) c.loop-at.invariant.2
          ∙ ap (λ r. int (pos (length es)) ∷ r) (ap (λ i. spread (drop i es) ++ v ∷ k ∷ []) (sym z) ∙ sym (spread_more es (c.loop-at.at - 1) v k c.in_ok-value.ensures c.in_ok-key.ensures)),
    )
