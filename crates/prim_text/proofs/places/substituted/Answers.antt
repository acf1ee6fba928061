use Rattle.std.proofs.Common.{◌≡◌, ◌<◌, ◌+◌, ◌++◌, length, ap, sym, ◌∙◌, arith, rules}
use Rattle.muck_model.specs.Bytes.{text_most}
use Rattle.muf_model.specs.Texts.{text_pieces, texts_joined}
use Rattle.prim_text.proofs.Texts.{text-drop}
use Rattle.prim_text.proofs.Parts.{one_more, too_long, at_last, more_inside, last_inside}
use Rattle.prim_text.proofs.places.substituted.Goals as goal

pub returns-then-len-gt-TEXT_MOST-clause-value : goal.returns-then-len-gt-TEXT_MOST-clause-value
returns-then-len-gt-TEXT_MOST-clause-value c =
    let over : text_most < length c.append_both.new.made.items = search (rules, c.if-len-gt-TEXT_MOST.true, c.len.ensures) in
    let after = c.in_ok-append_both.ensures ∙ ap (λ f. (c.loop-at.made.items ++ f) ++ c.args.other.now) c.cut_out.ensures.front in
    too_long _ _ _ over (one_more _ _ _ _ _ _ c.in-Some.at c.requires.some (sym c.in-Some.is ∙ c.first_place.ensures.value) c.loop-at.invariant.0 after)

pub returns-then-len-gt-TEXT_MOST-clause-inside : goal.returns-then-len-gt-TEXT_MOST-clause-inside
returns-then-len-gt-TEXT_MOST-clause-inside c =
    let after = c.in_ok-append_both.ensures ∙ ap (λ f. (c.loop-at.made.items ++ f) ++ c.args.other.now) c.cut_out.ensures.front in
    more_inside _ _ _ _ c.in-Some.at c.loop-at.invariant.2 c.requires.other c.loop-at.invariant.1 after

pub loop-at-preserved : goal.loop-at-preserved
loop-at-preserved c =
    let after = c.in_ok-append_both.ensures ∙ ap (λ f. (c.loop-at.made.items ++ f) ++ c.args.other.now) c.cut_out.ensures.front in (
      ap (λ b. c.append_both.new.made.items ++ texts_joined c.args.other.now (text_pieces c.args.sought.now b)) c.cut_out.ensures.behind ∙ one_more _ _ _ _ _ _ c.in-Some.at c.requires.some (sym c.in-Some.is ∙ c.first_place.ensures.value) c.loop-at.invariant.0 after,
      rw c.cut_out.ensures.behind (text-drop (c.in-Some.at + length c.args.sought.now) c.loop-at.rest.now c.loop-at.invariant.1),
      more_inside _ _ _ _ c.in-Some.at c.loop-at.invariant.2 c.requires.other c.loop-at.invariant.1 after,
    )

pub returns-clause-value : goal.returns-clause-value
returns-clause-value c =
    at_last _ _ _ _ _ _ (sym c.in_default.is ∙ c.first_place.ensures.value) c.loop-at.invariant.0 c.in_ok-extend_from_slice.ensures.items

pub returns-clause-inside : goal.returns-clause-inside
returns-clause-inside c = last_inside _ _ _ c.loop-at.invariant.2 c.loop-at.invariant.1 c.in_ok-extend_from_slice.ensures.items
