use Rattle.std.proofs.Common.{◌≡◌, ◌≤◌, ◌+◌, length, drop, ap, sym, ◌∙◌, arith}
use Rattle.muf_model.specs.Texts.{text_pieces}
use Rattle.prim_text.proofs.Wide.{one_piece}
use Rattle.prim_text.proofs.places.has_more_pieces.Goals as goal

pub returns-then-count-most : goal.returns-then-count-most
returns-then-count-most c =
    let piece = one_piece c.args.sought.now c.loop-at.rest.now c.in-Some.at c.requires (sym c.in-Some.is ∙ c.first_place.ensures.value) in
    let so_far = c.loop-at.invariant.0 in
    let reached : c.args.most ≤ c.loop-at.count = omega (arith, c.if-count-most.true) in
    λ yes. omega (arith, piece, so_far, reached)

pub loop-at-preserved : goal.loop-at-preserved
loop-at-preserved c =
    let piece = one_piece c.args.sought.now c.loop-at.rest.now c.in-Some.at c.requires (sym c.in-Some.is ∙ c.first_place.ensures.value) in
    let so_far = c.loop-at.invariant.0 in
    let behind : length (text_pieces c.args.sought.now c.cut_out.result.1.now) ≡ length (text_pieces c.args.sought.now (drop (c.in-Some.at + length c.args.sought.now) c.loop-at.rest.now)) = ap (λ b. length (text_pieces c.args.sought.now b)) c.cut_out.ensures.behind in
    (omega (arith, piece, so_far, behind), omega (arith, c.if-count-most.false))
