use Rattle.std.proofs.Common.{rules, ◌≡◌, true, false, sym, ◌∙◌, map, length, arith}
use Rattle.std.specs.Prelude.{is_some}
use Rattle.std.proofs.lemmas.List.{length-map}
use Rattle.std.proofs.lemmas.Option.{slice_get_past}
use Rattle.muf_model.specs.inner.View.{view}
use Rattle.muf_model.specs.ArrayRows.{entries_in, item_word}
use Rattle.muf_array.specs.inner.Shapes.{values_in}
use Rattle.muf_array.proofs.Texts.{words_more, words_stop, words_end}
use Rattle.muf_array.proofs.joining.all_have_texts.Goals as goal

pub returns-then-not-has_text : goal.returns-then-not-has_text
returns-then-not-has_text c =
    let h : is_some (item_word (view c.value_there.result.now)) ≡ false = search (rules, c.has_text.ensures, c.if-not-has_text.true) in
    sym (c.loop-at.invariant.1 ∙ words_stop (entries_in (view c.args.held.now)) c.loop-at.at (view c.value_there.result.now) c.value_there.ensures h)

pub loop-at-preserved : goal.loop-at-preserved
loop-at-preserved c =
    let h : is_some (item_word (view c.value_there.result.now)) ≡ true = search (rules, c.has_text.ensures, c.if-not-has_text.false) in
    (omega arith, c.loop-at.invariant.1 ∙ words_more (entries_in (view c.args.held.now)) c.loop-at.at (view c.value_there.result.now) c.value_there.ensures h)

pub returns : goal.returns
returns c =
    sym (c.loop-at.invariant.1 ∙ words_end (entries_in (view c.args.held.now)) c.loop-at.at (slice_get_past (values_in (view c.args.held.now)) c.loop-at.at (omega (arith, length-map (entries_in (view c.args.held.now)) (λ e. e.1), c.count-count.ensures.value, c.loop-at-test.false))))
