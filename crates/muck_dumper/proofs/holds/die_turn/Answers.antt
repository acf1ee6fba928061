use Rattle.std.proofs.Common.{sym, ◌∙◌, ap}
use Rattle.std.proofs.lemmas.Result.{err_from_is_err_and}
use Rattle.muck_model.specs.declared.event.Event.TheVariants.{Died}
use Rattle.spec_events.specs.Histories.{History, entered}
use Rattle.muck_dumping.specs.inner.Dumps.{by}
use Rattle.muck_dumper.specs.inner.Steps.{MadeBy}
use Rattle.muck_dumper.proofs.Turns.{entry_made, step_made}
use Rattle.muck_dumper.proofs.holds.die_turn.Goals as goal

pub takes-requires-clause-rests : goal.takes-requires-clause-rests
takes-requires-clause-rests g c = (9, c.requires.rests)

pub gives-requires-clause-entered : goal.gives-requires-clause-entered
gives-requires-clause-entered g c = entry_made c.args.seat.now.me c.takes.new.seat.me c.in_ok-held.held.state c.died.new.self Died (c.in_ok-held.ensures.ok 9 c.requires.rests) (MadeBy.bare c.died.ensures)

pub returns-clause-ok : goal.returns-clause-ok
returns-clause-ok g c =
    let it = step_made c.args.seat.now.me c.takes.new.seat.me c.in_ok-held.held.state c.died.new.self Died (c.in_ok-held.ensures.ok 9 c.requires.rests) (MadeBy.bare c.died.ensures) c.gives.new.seat.me c.gives.ensures.given in
    (it.0, it.2 ∙ c.died.ensures ∙ ap (λ (h : History). entered h (by 9 Died)) (sym it.1))

pub returns-in_err-held-clause-err : goal.returns-in_err-held-clause-err
returns-in_err-held-clause-err g c =
    let err = c.in_err-held.ensures in
    let p = err_from_is_err_and c.from_residual.result c.from_residual.ensures.1 in
    rw p.1 (err.left 9 c.requires.rests, err.waited.0, err.waited.1)
