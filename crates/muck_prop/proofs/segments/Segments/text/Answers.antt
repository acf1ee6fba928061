use Rattle.std.proofs.Common.{◌++◌, ◌∷◌, [], sym, ◌∙◌, ap, append_assoc, arith}
use Rattle.muck_laws.proofs.Texts.{join_first, join_more}
use Rattle.muck_prop.proofs.segments.Segments.text.Goals as goal
use Rattle.muck_prop.proofs.segments.Segments.text.Goals.{then-i-gt0+in_ok-push, else-i-gt0}

pub loop-i-preserved : goal.loop-i-preserved
loop-i-preserved c =
    let parts = c.as_slice-kept.result.now in
    let segment = c.index-kept-i.result in
    let whole = c.in_ok-extend_from_slice.ensures.items ∙ ap (λ s. c.if-i-gt0.text.items ++ s) c.as_slice.ensures in
    elim c.if-i-gt0.branch [
      | then-i-gt0+in_ok-push w ↦
          let more = join_more 47 parts c.loop-i.i _ _ (omega arith) c.index-kept-i.is (omega arith) in
          whole
          ∙ ap (λ t. t.items ++ segment) w.text-is
          ∙ ap (λ t. t ++ segment) w.in_ok-push.ensures.items
          ∙ append_assoc c.loop-i.text.items (47 ∷ []) segment
          ∙ ap (λ t. t ++ 47 ∷ segment) c.loop-i.invariant
          ∙ sym more
      | else-i-gt0 w ↦
          let first = join_first 47 parts c.loop-i.i _ _ (omega arith) c.index-kept-i.is (omega arith) in
          whole
          ∙ ap (λ t. t.items ++ segment) w.text-is
          ∙ ap (λ t. t ++ segment) c.loop-i.invariant
          ∙ sym first
    ]
