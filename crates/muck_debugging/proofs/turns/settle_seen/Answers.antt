use Rattle.std.proofs.Common.{sym, ◌∙◌}
use Rattle.muck_laws.proofs.Results.{on_error}
use Rattle.muck_script.proofs.Stories.{way_begins, way_goes_on, way_ends, way_over, way_dies}
use Rattle.muck_debugging.proofs.Watched.{told_begins, told_on, told_ends, told_over}
use Rattle.muck_debugging.proofs.turns.settle_seen.Goals as goal

pub loop-done-init : goal.loop-done-init
loop-done-init g c = record { way = way_begins 4096 _; told = told_begins g.W.Watch.tells 4096 _ _ }

pub loop-done-preserved : goal.loop-done-preserved
loop-done-preserved g c = record {
  way = way_goes_on 4096 _ _ c.loop-done.world c.take_turn.new.world c.loop-done.invariant.way c.loop-done-test.true
      (sym c.in_ok-take_turn.ensures.some ∙ c.if-not-branch.false) c.in_ok-take_turn.ensures.world;
  told = told_on g.W.Watch.tells 4096 _ _ c.loop-done.world c.take_turn.new.world _ _ _ c.loop-done.invariant.told c.loop-done-test.true
      (sym c.in_ok-take_turn.ensures.some ∙ c.if-not-branch.false) c.in_ok-take_turn.ensures.world c.in_ok-take_turn.ensures.seen;
}

pub returns-then-not-branch-clause-count : goal.returns-then-not-branch-clause-count
returns-then-not-branch-clause-count g c =
    (way_ends 4096 _ _ c.loop-done.world c.take_turn.new.world c.loop-done.invariant.way
    (sym c.in_ok-take_turn.ensures.some ∙ c.if-not-branch.true) c.in_ok-take_turn.ensures.world).0

pub returns-then-not-branch-clause-world : goal.returns-then-not-branch-clause-world
returns-then-not-branch-clause-world g c =
    (way_ends 4096 _ _ c.loop-done.world c.take_turn.new.world c.loop-done.invariant.way
    (sym c.in_ok-take_turn.ensures.some ∙ c.if-not-branch.true) c.in_ok-take_turn.ensures.world).1

pub returns-then-not-branch-clause-seen : goal.returns-then-not-branch-clause-seen
returns-then-not-branch-clause-seen g c =
    told_ends g.W.Watch.tells 4096 _ _ c.loop-done.world _ _ _ c.loop-done.invariant.told
    (sym c.in_ok-take_turn.ensures.some ∙ c.if-not-branch.true) c.in_ok-take_turn.ensures.seen

pub returns-clause-count : goal.returns-clause-count
returns-clause-count g c = (way_over 4096 _ _ _ c.loop-done.invariant.way c.loop-done-test.false).0

pub returns-clause-world : goal.returns-clause-world
returns-clause-world g c = (way_over 4096 _ _ _ c.loop-done.invariant.way c.loop-done-test.false).1

pub returns-clause-seen : goal.returns-clause-seen
returns-clause-seen g c = told_over g.W.Watch.tells 4096 _ _ _ _ _ c.loop-done.invariant.told c.loop-done-test.false

pub returns-in_err-take_turn-clause-died : goal.returns-in_err-take_turn-clause-died
returns-in_err-take_turn-clause-died g c =
    on_error _ _ c.from_residual.result _
    (way_dies 4096 _ _ c.loop-done.world c.take_turn.new.world c.loop-done.invariant.way c.loop-done-test.true c.in_err-take_turn.ensures.died)
