use Rattle.std.proofs.Common.{arith, sym, ◌∙◌, get_or}
use Rattle.std.proofs.lemmas.Bool.{cond-true, cond-false}
use Rattle.muck_laws.proofs.Places.{mapped_more}
use Rattle.spec_live.specs.Connections.{left_where, is_connection_of}
use Rattle.muck_board.proofs.board.Board.leave_player.Goals as goal
use Rattle.muck_board.proofs.board.Board.leave_player.Goals.{then-is_of, else-is_of}

pub loop-c-preserved : goal.loop-c-preserved
loop-c-preserved c =
    let leaving = left_where (is_connection_of c.args.player) in
    elim c.if-is_of.branch [
      | then-is_of w ↦ rw w.c-items-is (mapped_more leaving c.deref_mut-c-items.result.now c.loop-c.c-items c.loop-c.c-index c.c-item.result w.leave.new.self (omega arith) c.loop-c.invariant (w.leave.ensures ∙ sym (cond-true _ _ _ (sym c.is_of.ensures ∙ w.if-is_of.true))))
      | else-is_of w ↦ rw w.c-items-is (mapped_more leaving c.deref_mut-c-items.result.now c.loop-c.c-items c.loop-c.c-index c.c-item.result (get_or c.loop-c.c-items c.loop-c.c-index c.c-item.result) (omega arith) c.loop-c.invariant (sym (cond-false _ _ _ (sym c.is_of.ensures ∙ w.if-is_of.false))))
    ]
