use Rattle.std.proofs.Common.{rules, ◌≡◌, drop, Ok, Err, arith}
use Rattle.muf_frame.specs.inner.Shown.{flat}
use Rattle.muf_model.specs.Ladder.{times, first_refusal}
use Rattle.muck_perm.specs.inner.Guards.{objects_of}
use Rattle.prim_common.specs.inner.Tests.{item_fault}
use Rattle.prim_common.proofs.Walks.{failed_round, passed_round, times_left}
use Rattle.prim_common.proofs.items.test_counted.Goals as goal

pub returns-in_err-test_items : goal.returns-in_err-test_items
returns-in_err-test_items c =
    let test = item_fault c.args.asked c.args.guard.now.actor (objects_of c.args.guard.now) in
    let stack = (flat c.args.frame.now).stack in
    let back : c.from_residual.result ≡ Err c.in_err-test_items.field-0.0 = search rules in
    let was : c.test_items.result ≡ Err c.in_err-test_items.field-0.0 = search rules in
    rw back (failed_round test c.args.each.now c.loop-left.left c.loop-left.depth stack (first_refusal test (times c.args.count c.args.each.now) (drop c.args.from stack)) c.in_err-test_items.field-0.0 c.test_items.result c.loop-left.invariant.1 c.loop-left-test.true c.test_items.ensures was)

pub loop-left-preserved : goal.loop-left-preserved
loop-left-preserved c =
    let test = item_fault c.args.asked c.args.guard.now.actor (objects_of c.args.guard.now) in
    let stack = (flat c.args.frame.now).stack in
    let was : c.test_items.result ≡ Ok c.in_ok-test_items.field-0 = search rules in (
      omega (arith, c.loop-left.invariant.0, times_left c.loop-left.left c.args.each.now c.loop-left-test.true),
      passed_round test c.args.each.now c.loop-left.left c.loop-left.depth stack (first_refusal test (times c.args.count c.args.each.now) (drop c.args.from stack)) c.in_ok-test_items.field-0 c.test_items.result c.loop-left.invariant.1 c.loop-left-test.true c.test_items.ensures was,
    )

pub test_items-requires : goal.test_items-requires
test_items-requires c = omega (arith, c.loop-left.invariant.0, times_left c.loop-left.left c.args.each.now c.loop-left-test.true)
