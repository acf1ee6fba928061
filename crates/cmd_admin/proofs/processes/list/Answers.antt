use Rattle.std.proofs.Common.{rules, arith, ◌≡◌, Err, refl, sym, ◌∙◌, subst}
use Rattle.spec_admin.specs.Processes.{processes_shown}
use Rattle.muck_perm.specs.inner.Guards.{Did, world_of}
use Rattle.cmd_admin.proofs.Listed.{listed_next, stays_shown, listed_all, lists_all}
use Rattle.cmd_admin.proofs.processes.list.Goals as goal

pub loop-process-init : goal.loop-process-init
loop-process-init c = (λ new r t. t, refl, refl, omega arith)

pub loop-process-preserved : goal.loop-process-preserved
loop-process-preserved c =
    let stays = stays_shown c.args.d c.process-item.result c.loop-process.guard c.show_own.new.guard _ c.in_ok-count.ensures.shown in
    let inv = c.loop-process.invariant in (
      λ new r t. inv.0 new r
          (listed_next c.args.d c.args.guard.now.actor (world_of c.args.guard.now) c.as_slice-process-items.result.now c.loop-process.process-index c.loop-process.count _ c.process-item.result
          c.loop-process.guard c.show_own.new.guard new r c.loop-process-test.true c.process-item.is inv.2 inv.1 c.in_ok-count.ensures.shown t),
      stays.0 ∙ inv.1,
      stays.1 ∙ inv.2,
      omega (arith, inv.3, stays.2),
    )

pub returns-in_err-count : goal.returns-in_err-count
returns-in_err-count c =
    let err : c.from_residual.result ≡ Err c.in_err-count.field-0.0 = search rules in
    subst (λ q. Did (processes_shown c.args.d c.args.guard.now.actor c.args.queue.now) c.args.guard.now c.show_own.new.guard q) (sym err)
    (lists_all c.args.d c.args.queue.now c.as_slice-process-items.result.now c.args.guard.now c.show_own.new.guard (Err c.in_err-count.field-0.0) c.as_slice-process-items.ensures
    (c.loop-process.invariant.0 c.show_own.new.guard (Err c.in_err-count.field-0.0) c.in_err-count.ensures.shown))

pub returns : goal.returns
returns c =
    lists_all c.args.d c.args.queue.now c.as_slice-process-items.result.now c.args.guard.now c.show_count.new.guard c.show_count.result c.as_slice-process-items.ensures
    (c.loop-process.invariant.0 c.show_count.new.guard c.show_count.result
    (listed_all c.args.d c.args.guard.now.actor (world_of c.args.guard.now) c.as_slice-process-items.result.now c.loop-process.process-index c.loop-process.count c.loop-process.guard c.show_count.new.guard c.show_count.result
    c.loop-process-test.false c.show_count.ensures))
