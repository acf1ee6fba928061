use Rattle.std.proofs.Common.{arith, sym, ap, ◌∙◌, [], ◌∷◌, ◌++◌, get_or, map}
use Rattle.std.proofs.Common.{append_assoc}
use Rattle.std.proofs.lemmas.List.{length-map, get_or-map}
use Rattle.muck_laws.proofs.Texts.{join_first, join_more}
use Rattle.mpi.proofs.lists.listed.Goals.{then-at-gt0+in_ok-push, else-at-gt0}
use Rattle.mpi.proofs.lists.listed.Goals as goal

pub loop-at-preserved : goal.loop-at-preserved
loop-at-preserved c =
    let l = c.loop-at in
    let parts = map (λ x. x.now) c.args.parts.now in
    let part = (get_or c.args.parts.now c.loop-at.at (record { ref_ptr = (0, 0); now = [] })).now in
    let whole = c.in_ok-extend_from_slice.ensures.items in
    elim c.if-at-gt0.branch [
      | then-at-gt0+in_ok-push w ↦
          let more = join_more 13 parts l.at [] part (omega (arith, length-map c.args.parts.now (λ x. x.now))) (sym (get_or-map (λ x. x.now) c.args.parts.now l.at (record { ref_ptr = (0, 0); now = [] }) [] (omega arith))) (omega arith) in
          let is = whole ∙ ap (λ b. b.items ++ part) w.bytes-is ∙ ap (λ b. b ++ part) w.in_ok-push.ensures.items ∙ append_assoc l.bytes.items (13 ∷ []) part ∙ ap (λ b. b ++ 13 ∷ part) l.invariant ∙ sym more in
          is
      | else-at-gt0 w ↦
          let first = join_first 13 parts l.at [] part (omega (arith, length-map c.args.parts.now (λ x. x.now))) (sym (get_or-map (λ x. x.now) c.args.parts.now l.at (record { ref_ptr = (0, 0); now = [] }) [] (omega arith))) (omega arith) in
          let is = whole ∙ ap (λ b. b.items ++ part) w.bytes-is ∙ ap (λ b. b ++ part) l.invariant ∙ sym first in
          is
    ]
