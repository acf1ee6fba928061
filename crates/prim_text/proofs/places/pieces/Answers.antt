use Rattle.std.proofs.Common.{◌≡◌, ◌≤◌, [], ◌∷◌, ◌+◌, ◌-◌, ◌++◌, length, length-drop, arith, map, ap, sym, ◌∙◌}
use Rattle.muf_model.specs.Datum.{text}
use Rattle.muf_model.specs.Texts.{text_pieces}
use Rattle.muf_model.specs.inner.View.{view}
use Rattle.prim_text.proofs.Texts.{text-drop}
use Rattle.prim_text.proofs.Parts.{next_piece, last_piece}
use Rattle.prim_text.proofs.places.pieces.Goals as goal

pub loop-at-preserved : goal.loop-at-preserved
loop-at-preserved c =
    let after = c.in_ok-push_piece.ensures.value ∙ ap (λ f. map view c.loop-at.items.items ++ (text f ∷ [])) c.cut_out.ensures.front in
    let shorter : length c.cut_out.result.1.now ≡ length c.loop-at.rest.now - (c.in-Some.at + length c.args.sought.now) = ap length c.cut_out.ensures.behind ∙ length-drop _ _ in
    let longer = c.in_ok-push_piece.ensures.len in
    let some = c.requires.some in
    let so_far = c.loop-at.invariant.2 in
    let within : c.in-Some.at + length c.args.sought.now ≤ length c.loop-at.rest.now = c.in-Some.ensures.within in (
      ap (λ b. map view c.push_piece.new.items.items ++ map text (text_pieces c.args.sought.now b)) c.cut_out.ensures.behind ∙ next_piece _ _ _ _ _ c.in-Some.at c.requires.some (sym c.in-Some.is ∙ c.first_place.ensures.value) c.loop-at.invariant.0 after,
      rw c.cut_out.ensures.behind (text-drop (c.in-Some.at + length c.args.sought.now) c.loop-at.rest.now c.loop-at.invariant.1),
      omega (arith, shorter, longer, some, so_far, within),
    )

pub returns-clause-value : goal.returns-clause-value
returns-clause-value c = last_piece _ _ _ _ _ (sym c.in_default.is ∙ c.first_place.ensures.value) c.loop-at.invariant.0 c.in_ok-push_piece-2.ensures.value
