use Rattle.std.proofs.Common.{arith, sym, ◌∙◌, get_or, None}
use Rattle.std.proofs.lemmas.Bool.{cond-true, cond-false}
use Rattle.muck_laws.proofs.Places.{mapped_more}
use Rattle.spec_live.specs.Connections.{edited_where, edits}
use Rattle.muck_board.proofs.board.Board.close_editors.Goals as goal
use Rattle.muck_board.proofs.board.Board.close_editors.Goals.{then-edits, else-edits}

pub loop-c-preserved : goal.loop-c-preserved
loop-c-preserved c =
    let closing = edited_where (edits c.args.program) None in
    elim c.if-edits.branch [
      | then-edits w ↦ rw w.c-items-is (mapped_more closing c.deref_mut-c-items.result.now c.loop-c.c-items c.loop-c.c-index c.c-item.result w.set_editor.new.self (omega arith) c.loop-c.invariant (w.set_editor.ensures ∙ sym (cond-true _ _ _ (sym c.edits.ensures ∙ w.if-edits.true))))
      | else-edits w ↦ rw w.c-items-is (mapped_more closing c.deref_mut-c-items.result.now c.loop-c.c-items c.loop-c.c-index c.c-item.result (get_or c.loop-c.c-items c.loop-c.c-index c.c-item.result) (omega arith) c.loop-c.invariant (sym (cond-false _ _ _ (sym c.edits.ensures ∙ w.if-edits.false))))
    ]
