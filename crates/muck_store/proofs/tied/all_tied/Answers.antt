use Rattle.std.proofs.Common.{◌≡◌, length, sym, ◌∙◌, arith}
use Rattle.muck_store.proofs.Tying.{tied_more, tied_stops, tied_ends}
use Rattle.muck_store.proofs.tied.all_tied.Goals as goal

pub returns-then-not-is_right : goal.returns-then-not-is_right
returns-then-not-is_right c =
    sym (c.loop-k.invariant ∙ tied_stops c.args.records.now c.loop-k.k c.index-records-k.result c.loop-k-test.true c.index-records-k.is (sym c.is_right.ensures ∙ c.if-not-is_right.true))

pub loop-k-preserved : goal.loop-k-preserved
loop-k-preserved c =
    c.loop-k.invariant ∙ tied_more c.args.records.now c.loop-k.k c.index-records-k.result c.loop-k-test.true c.index-records-k.is (sym c.is_right.ensures ∙ c.if-not-is_right.false)

pub returns : goal.returns
returns c =
    let end : c.loop-k.k ≡ length c.args.records.now = omega arith in
    sym (c.loop-k.invariant ∙ tied_ends c.args.records.now c.loop-k.k end)
