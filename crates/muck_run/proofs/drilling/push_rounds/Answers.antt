use Rattle.std.proofs.Common.{refl, arith}
use Rattle.muck_run.proofs.Drilled.{rounds_begin, rounds_go_on, rounds_end}
use Rattle.muck_run.proofs.drilling.push_rounds.Goals as goal

pub loop-done-init : goal.loop-done-init
loop-done-init c = record { pushed = rounds_begin _ _ refl; within = omega arith }

pub loop-done-preserved : goal.loop-done-preserved
loop-done-preserved c = record { pushed = rounds_go_on _ _ _ _ c.loop-done.invariant.pushed c.in_ok-push_round.ensures; within = omega (arith, c.loop-done-test.true) }

pub returns : goal.returns
returns c = rounds_end _ _ _ _ c.loop-done.invariant.pushed c.loop-done.invariant.within c.loop-done-test.false
