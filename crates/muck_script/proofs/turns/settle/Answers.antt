use Rattle.std.proofs.Common.{sym, ◌∙◌}
use Rattle.muck_laws.proofs.Results.{on_error}
use Rattle.muck_script.proofs.Stories.{way_begins, way_goes_on, way_ends, way_over, way_dies}
use Rattle.muck_script.proofs.turns.settle.Goals as goal

pub loop-done-init : goal.loop-done-init
loop-done-init c = way_begins 4096 _

pub loop-done-preserved : goal.loop-done-preserved
loop-done-preserved c =
    way_goes_on 4096 _ _ c.loop-done.world c.take_turn.new.world c.loop-done.invariant c.loop-done-test.true
    (sym c.in_ok-take_turn.ensures.some ∙ c.if-not-branch.false) c.in_ok-take_turn.ensures.world

pub returns-then-not-branch-clause-count : goal.returns-then-not-branch-clause-count
returns-then-not-branch-clause-count c =
    (way_ends 4096 _ _ c.loop-done.world c.take_turn.new.world c.loop-done.invariant
    (sym c.in_ok-take_turn.ensures.some ∙ c.if-not-branch.true) c.in_ok-take_turn.ensures.world).0

pub returns-then-not-branch-clause-world : goal.returns-then-not-branch-clause-world
returns-then-not-branch-clause-world c =
    (way_ends 4096 _ _ c.loop-done.world c.take_turn.new.world c.loop-done.invariant
    (sym c.in_ok-take_turn.ensures.some ∙ c.if-not-branch.true) c.in_ok-take_turn.ensures.world).1

pub returns-clause-count : goal.returns-clause-count
returns-clause-count c = (way_over 4096 _ _ _ c.loop-done.invariant c.loop-done-test.false).0

pub returns-clause-world : goal.returns-clause-world
returns-clause-world c = (way_over 4096 _ _ _ c.loop-done.invariant c.loop-done-test.false).1

pub returns-in_err-take_turn-clause-died : goal.returns-in_err-take_turn-clause-died
returns-in_err-take_turn-clause-died c =
    on_error _ _ c.from_residual.result _
    (way_dies 4096 _ _ c.loop-done.world c.take_turn.new.world c.loop-done.invariant c.loop-done-test.true c.in_err-take_turn.ensures.died)
