use Rattle.std.proofs.Common.{rules, ◌≡◌, ◌+◌, drop, Some, None, Ok, Err, arith}
use Rattle.std.specs.Prelude.{slice_get}
use Rattle.muf_frame.specs.inner.Shown.{flat}
use Rattle.muf_model.specs.Ladder.{first_refusal}
use Rattle.muck_perm.specs.inner.Guards.{objects_of}
use Rattle.prim_common.specs.inner.Tests.{item_fault}
use Rattle.prim_common.proofs.Walks.{passed_all, failed_at, passed_at}
use Rattle.prim_common.proofs.items.test_items.Goals as goal

pub returns-in_default : goal.returns-in_default
returns-in_default c =
    let test = item_fault c.args.asked c.args.guard.now.actor (objects_of c.args.guard.now) in
    let none : slice_get c.args.frame.now.stack (c.loop-at.at + c.args.from) ≡ None = search rules in
    passed_all test c.args.needs.now c.args.frame.now.stack c.loop-at.at (c.loop-at.at + c.args.from) (first_refusal test c.args.needs.now (drop c.args.from (flat c.args.frame.now).stack)) c.loop-at.invariant.1 none

pub returns-in_err-test_item : goal.returns-in_err-test_item
returns-in_err-test_item c =
    let test = item_fault c.args.asked c.args.guard.now.actor (objects_of c.args.guard.now) in
    let item : slice_get c.args.frame.now.stack (c.loop-at.at + c.args.from) ≡ Some c.in-Some.item.now = search rules in
    let back : c.from_residual.result ≡ Err c.in_err-test_item.field-0.0 = search rules in
    let was : c.test_item.result ≡ Err c.in_err-test_item.field-0.0 = search rules in
    rw back (failed_at test c.args.needs.now c.args.frame.now.stack c.loop-at.at (c.loop-at.at + c.args.from) (first_refusal test c.args.needs.now (drop c.args.from (flat c.args.frame.now).stack)) _ c.in-Some.item.now c.in_err-test_item.field-0.0 c.test_item.result c.loop-at.invariant.1 c.loop-at-test.true item c.test_item.ensures was)

pub loop-at-preserved : goal.loop-at-preserved
loop-at-preserved c =
    let test = item_fault c.args.asked c.args.guard.now.actor (objects_of c.args.guard.now) in
    let item : slice_get c.args.frame.now.stack (c.loop-at.at + c.args.from) ≡ Some c.in-Some.item.now = search rules in
    let was : c.test_item.result ≡ Ok c.in_ok-test_item.field-0 = search rules in
    let next : c.loop-at.at + 1 + c.args.from ≡ c.loop-at.at + c.args.from + 1 = omega arith in
    (omega (arith, c.loop-at-test.true), rw next (passed_at test c.args.needs.now c.args.frame.now.stack c.loop-at.at (c.loop-at.at + c.args.from) (first_refusal test c.args.needs.now (drop c.args.from (flat c.args.frame.now).stack)) _ c.in-Some.item.now c.in_ok-test_item.field-0 c.test_item.result c.loop-at.invariant.1 c.loop-at-test.true item c.test_item.ensures was))
