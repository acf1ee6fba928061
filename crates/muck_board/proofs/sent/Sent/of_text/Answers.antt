use Rattle.std.proofs.Common.{List, ℕ, Some, ap, sym, ◌∙◌, ◌≤◌, ◌++◌, take, length, arith}
use Rattle.std.specs.List.{slice_split}
use Rattle.muck_model.specs.Bytes.{text_most}
use Rattle.spec_live.specs.Output.{is_return, sent_lines_bytes, sent_lines}
use Rattle.muck_board.specs.inner.Pieces.{pieces_after}
use Rattle.muck_board.proofs.Ended.{line_sent_on, all_lines_sent, text_is}
use Rattle.muck_board.proofs.sent.Sent.of_text.Goals as goal

pub loop-rest-init : goal.loop-rest-init
loop-rest-init c = ap (λ (l : List ℕ). l ++ sent_lines_bytes (pieces_after (Some c.cut-front.result))) c.in_ok-bytes.ensures.items ∙ ap (λ t. sent_lines_bytes (slice_split is_return t)) c.cut-front.ensures.front

pub loop-rest-preserved : goal.loop-rest-preserved
loop-rest-preserved c =
    line_sent_on c.loop-rest.bytes.items _ _ _ _ _ c.in_ok-add_line.ensures c.cut_piece.ensures.pieces (ap (λ r. c.loop-rest.bytes.items ++ sent_lines_bytes (pieces_after r)) (sym c.in-Some.is) ∙ c.loop-rest.invariant)

pub invariant_of-result : goal.invariant_of-result
invariant_of-result c =
    let whole : length (take text_most c.args.text.now) ≤ text_most = omega (arith, ap length c.cut-front.ensures.front, c.cut-front.ensures.most) in
    (text_is (take text_most c.args.text.now) c.loop-rest.bytes.items whole (all_lines_sent _ _ _ (ap pieces_after c.in_default.is) c.loop-rest.invariant)).1

pub returns : goal.returns
unfolding sent_lines
returns c =
    let whole : length (take text_most c.args.text.now) ≤ text_most = omega (arith, ap length c.cut-front.ensures.front, c.cut-front.ensures.most) in
    (text_is (take text_most c.args.text.now) c.loop-rest.bytes.items whole (all_lines_sent _ _ _ (ap pieces_after c.in_default.is) c.loop-rest.invariant)).0
