use Rattle.std.proofs.Common.{arith, refl, sym, ◌∙◌, ap, map, get_or, length-set}
use Rattle.std.proofs.lemmas.Bool.{cond-true, cond-false}
use Rattle.std.proofs.lemmas.List.{with_items_is}
use Rattle.muck_laws.proofs.Places.{mapped_more, quiet_where}
use Rattle.spec_live.specs.Connections.{told_where}
use Rattle.muck_board.specs.inner.Silent.{quiet, silent}
use Rattle.muck_board.proofs.Sending.{told_is}
use Rattle.muck_board.proofs.board.Board.tell_where.Goals as goal
use Rattle.muck_board.proofs.board.Board.tell_where.Goals.{then-hears+in_ok-tell, else-hears}

pub returns-in_err-tell-clause-rest : goal.returns-in_err-tell-clause-rest
returns-in_err-tell-clause-rest g c =
    ap (λ cs. record { connections = map quiet cs; random = c.self.inside.random; tune = c.self.inside.tune })
    (with_items_is c.self.inside.connections _ (length-set c.loop-c.c-items c.loop-c.c-index c.tell.new.self ∙ (omega arith)))
    ∙ ap (λ cs. record { connections = cs; random = c.self.inside.random; tune = c.self.inside.tune })
    (quiet_where quiet _ c.loop-c.c-items c.loop-c.c-index _ c.tell.new.self (omega arith) c.in_err-tell.ensures.rest c.loop-c.invariant.rest ∙ ap (map quiet) c.deref_mut-c-items.ensures.value)
    ∙ ap silent c.self.view_is

pub loop-c-preserved : goal.loop-c-preserved
loop-c-preserved g c =
    let tested = c.requires.1.1 _ _ c.hears.ensures in
    elim c.if-hears.branch [
      | then-hears+in_ok-tell w ↦ rw w.c-items-is (record {
        told = mapped_more (told_where g.test c.args.text.now) c.deref_mut-c-items.result.now c.loop-c.c-items c.loop-c.c-index c.c-item.result w.tell.new.self (omega arith) c.loop-c.invariant.told (told_is _ _ _ _ c.in_ok-sent.ensures w.in_ok-tell.ensures.ok ∙ sym (cond-true _ _ _ (sym tested ∙ w.if-hears.true)));
        rest = quiet_where quiet c.deref_mut-c-items.result.now c.loop-c.c-items c.loop-c.c-index c.c-item.result w.tell.new.self (omega arith) w.in_ok-tell.ensures.rest c.loop-c.invariant.rest;
      })
      | else-hears w ↦ rw w.c-items-is (record {
        told = mapped_more (told_where g.test c.args.text.now) c.deref_mut-c-items.result.now c.loop-c.c-items c.loop-c.c-index c.c-item.result (get_or c.loop-c.c-items c.loop-c.c-index c.c-item.result) (omega arith) c.loop-c.invariant.told (sym (cond-false _ _ _ (sym tested ∙ w.if-hears.false)));
        rest = quiet_where quiet c.deref_mut-c-items.result.now c.loop-c.c-items c.loop-c.c-index c.c-item.result (get_or c.loop-c.c-items c.loop-c.c-index c.c-item.result) (omega arith) refl c.loop-c.invariant.rest;
      })
    ]
