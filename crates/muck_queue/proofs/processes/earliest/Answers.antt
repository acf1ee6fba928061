use Rattle.std.proofs.Common.{ap, ◌∙◌, sym, Some}
use Rattle.std.proofs.lemmas.List.{take_all}
use Rattle.std.specs.Option.{option_copied, option_map_or}
use Rattle.muck_queue.specs.Queues.{is_process_due, earlier, earliest}
use Rattle.muck_queue.proofs.Earliest.{earliest_more, earliest_same}
use Rattle.muck_queue.proofs.processes.earliest.Goals as goal
use Rattle.muck_queue.proofs.processes.earliest.Goals.{then-is_due, else-is_due}

pub loop-p-preserved : goal.loop-p-preserved
loop-p-preserved c =
    elim c.if-is_due.branch [
      | then-is_due w ↦
          ap option_copied w.best-is
          ∙ ap Some (w.earlier.ensures ∙ ap (λ o. option_map_or (λ q. earlier q c.p-item.result) o c.p-item.result) c.loop-p.invariant)
          ∙ sym (earliest_more (is_process_due c.args.moment c.args.claims.now) _ _ _ c.loop-p-test.true c.p-item.is (sym c.is_due.ensures ∙ w.if-is_due.true))
      | else-is_due w ↦
          ap option_copied w.best-is
          ∙ c.loop-p.invariant
          ∙ sym (earliest_same (is_process_due c.args.moment c.args.claims.now) _ _ _ c.loop-p-test.true c.p-item.is (sym c.is_due.ensures ∙ w.if-is_due.false))
    ]

pub returns : goal.returns
returns c = c.loop-p.invariant ∙ ap (earliest (is_process_due c.args.moment c.args.claims.now)) (take_all _ _ c.loop-p-test.false)
