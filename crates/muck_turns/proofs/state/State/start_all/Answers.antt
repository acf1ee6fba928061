use Rattle.std.proofs.Common.{refl, sym, ◌∙◌}
use Rattle.muck_turns.proofs.Hooks.{start_next, start_stop, start_end}
use Rattle.muck_turns.proofs.state.State.start_all.Goals as goal

pub loop-call-init : goal.loop-call-init
loop-call-init c = refl

pub loop-call-preserved : goal.loop-call-preserved
loop-call-preserved c =
    sym (start_next c.args.calls.now c.loop-call.call-index c.call-item.result c.loop-call.self c.start_one.new.self c.in_ok-more.more c.loop-call-test.true c.call-item.is c.in_ok-more.ensures c.if-not-more.false) ∙ c.loop-call.invariant

pub returns-then-not-more : goal.returns-then-not-more
returns-then-not-more c =
    sym (start_stop c.args.calls.now c.loop-call.call-index c.call-item.result c.loop-call.self c.start_one.new.self c.in_ok-more.more c.loop-call-test.true c.call-item.is c.in_ok-more.ensures c.if-not-more.true) ∙ c.loop-call.invariant

pub returns : goal.returns
returns c = sym (start_end c.args.calls.now c.loop-call.call-index c.loop-call.self c.loop-call-test.false) ∙ c.loop-call.invariant
