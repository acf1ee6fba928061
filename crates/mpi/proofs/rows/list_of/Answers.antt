use Rattle.std.proofs.Common.{arith, refl, sym, subst, ap, ◌∙◌, [], ◌∷◌, ◌++◌}
use Rattle.std.proofs.Common.{append_assoc}
use Rattle.muck_laws.proofs.Texts.{join_first, join_more}
use Rattle.mpi.specs.Made.{Inside}
use Rattle.mpi.proofs.Inside.{inside_more, text_inside}
use Rattle.mpi.proofs.rows.list_of.Goals.{then-at-gt0+in_ok-push, else-at-gt0}
use Rattle.mpi.proofs.rows.list_of.Goals as goal

pub loop-at-preserved : goal.loop-at-preserved
loop-at-preserved c =
    let l = c.loop-at in
    let parts = c.args.values.now in
    let part = c.index-values-at.result in
    let whole = c.in_ok-extend_from_slice.ensures.items ∙ ap (λ s. c.if-at-gt0.bytes.items ++ s) c.as_slice.ensures.bytes in
    elim c.if-at-gt0.branch [
      | then-at-gt0+in_ok-push w ↦
          let more = join_more 13 parts l.at part part (omega arith) c.index-values-at.is (omega arith) in
          let is = whole ∙ ap (λ b. b.items ++ part) w.bytes-is ∙ ap (λ b. b ++ part) w.in_ok-push.ensures.items ∙ append_assoc l.bytes.items (13 ∷ []) part ∙ ap (λ b. b ++ 13 ∷ part) l.invariant.0 ∙ sym more in
          (is, subst (λ xs. Inside xs) (sym (c.in_ok-extend_from_slice.ensures.items ∙ ap (λ b. b.items ++ c.as_slice.result.now) w.bytes-is ∙ ap (λ b. b ++ c.as_slice.result.now) w.in_ok-push.ensures.items)) (inside_more (l.bytes.items ++ 13 ∷ []) c.as_slice.result.now (inside_more l.bytes.items (13 ∷ []) l.invariant.1 refl) (text_inside c.as_slice.result.now c.as_slice.ensures.text)))
      | else-at-gt0 w ↦
          let first = join_first 13 parts l.at part part (omega arith) c.index-values-at.is (omega arith) in
          let is = whole ∙ ap (λ b. b.items ++ part) w.bytes-is ∙ ap (λ b. b ++ part) l.invariant.0 ∙ sym first in
          (is, subst (λ xs. Inside xs) (sym (c.in_ok-extend_from_slice.ensures.items ∙ ap (λ b. b.items ++ c.as_slice.result.now) w.bytes-is)) (inside_more l.bytes.items c.as_slice.result.now l.invariant.1 (text_inside c.as_slice.result.now c.as_slice.ensures.text)))
    ]
