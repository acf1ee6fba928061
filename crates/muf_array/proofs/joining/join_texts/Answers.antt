use Rattle.std.proofs.Common.{◌≡◌, map, ap, sym, ◌∙◌, ◌++◌, ◌+◌, ◌≤◌, length, Some, None, arith}
use Rattle.std.specs.Prelude.{slice_get, option_map}
use Rattle.std.proofs.lemmas.List.{length-map, append_assoc, append-nil}
use Rattle.std.proofs.lemmas.Option.{slice_get-map, slice_get_past}
use Rattle.muf_model.specs.inner.View.{view}
use Rattle.muf_model.specs.Texts.{texts_joined}
use Rattle.muf_model.specs.TextRows.{text_within}
use Rattle.muf_model.specs.ArrayRows.{entries_in}
use Rattle.muf_array.specs.inner.Shapes.{text_in, values_in, lead}
use Rattle.muf_array.proofs.Texts.{left_of, join_more, join_end}
use Rattle.prim_text.proofs.Parts.{too_long}
use Rattle.muf_array.proofs.joining.join_texts.Goals as goal

pub returns-then-len-gt-TEXT_MOST-clause-value : goal.returns-then-len-gt-TEXT_MOST-clause-value
returns-then-len-gt-TEXT_MOST-clause-value c =
    let ts = map text_in (values_in (view c.args.held.now)) in
    too_long (texts_joined c.args.between.now ts) c.loop-at.made.items (left_of c.args.between.now c.loop-at.at ts) (omega (arith, c.len.ensures, c.if-len-gt-TEXT_MOST.true)) c.loop-at.invariant.2

pub loop-at-preserved : goal.loop-at-preserved
loop-at-preserved c =
    let vs = values_in (view c.args.held.now) in
    let ts = map text_in vs in
    let s = c.args.between.now in
    let t = text_in (view c.value_there.result.now) in
    let at = c.loop-at.at in
    let here : slice_get ts at ≡ Some t = slice_get-map text_in vs at ∙ ap (λ o. option_map text_in o) c.value_there.ensures in (
      omega (arith, c.count-count.ensures.value, length-map (entries_in (view c.args.held.now)) (λ e. e.1), c.loop-at-test.true),
      c.in_ok-push_next.ensures.inside,
      ap (λ m. m ++ left_of s (at + 1) ts) c.in_ok-push_next.ensures.value
          ∙ append_assoc c.loop-at.made.items (lead s at ++ t) (left_of s (at + 1) ts)
          ∙ ap (λ r. c.loop-at.made.items ++ r) (sym (join_more s at ts t here))
          ∙ c.loop-at.invariant.2,
    )

pub returns-clause-value : goal.returns-clause-value
returns-clause-value c =
    let vs = values_in (view c.args.held.now) in
    let ts = map text_in vs in
    let s = c.args.between.now in
    let past : slice_get ts c.loop-at.at ≡ None = slice_get_past ts c.loop-at.at (omega (arith, length-map vs text_in, length-map (entries_in (view c.args.held.now)) (λ e. e.1), c.count-count.ensures.value, c.loop-at-test.false)) in
    ap text_within (sym (append-nil c.loop-at.made.items) ∙ ap (λ r. c.loop-at.made.items ++ r) (sym (join_end s c.loop-at.at ts past)) ∙ c.loop-at.invariant.2)
