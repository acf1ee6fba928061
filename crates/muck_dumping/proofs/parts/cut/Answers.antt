use Rattle.std.proofs.Common.{◌∙◌}
use Rattle.spec_events.specs.Histories.{now}
use Rattle.muck_dumping.specs.declared.parts.Pending.{Pending}
use Rattle.muck_dumping.proofs.Beginning.{batch_cut}
use Rattle.muck_dumping.proofs.Marks.{keeps_undue}
use Rattle.muck_dumping.proofs.parts.cut.Goals.{then-goes_by_marks+in_ok-batch, else-goes_by_marks+in_ok-batch-2}
use Rattle.muck_dumping.proofs.parts.cut.Goals as goal

pub cut-requires-clause-kept : goal.cut-requires-clause-kept
cut-requires-clause-kept c = keeps_undue _ c.args.world.now (c.base-base.ensures ∙ c.goes_by_marks.ensures c.args.world.now c.requires.marks c.if-goes_by_marks.true)

pub returns-clause-batch : goal.returns-clause-batch
returns-clause-batch c =
    let p : Pending = record { number = c.next-number.result; size = c.size-size.result; batch = c.if-goes_by_marks.batch } in
    let size = c.size-size.ensures c.requires.alive in
    elim c.if-goes_by_marks.branch [
      | then-goes_by_marks+in_ok-batch w ↦ (let e = w.in_ok-batch.ensures in batch_cut _ _ (now c.args.world.now) p w.in_ok-batch.batch w.batch-is c.base-base.ensures size e.records e.storable e.tune e.consistent e.limits e.tuned)
      | else-goes_by_marks+in_ok-batch-2 w ↦ (let e = w.in_ok-batch-2.ensures in batch_cut _ _ (now c.args.world.now) p w.in_ok-batch-2.batch w.batch-is c.base-base.ensures size e.records e.storable e.tune e.consistent e.limits e.tuned)
    ]
