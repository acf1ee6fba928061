use Rattle.std.proofs.Common.{subst}
use Rattle.spec_live.specs.Consistent.{IsConsistent}
use Rattle.muck_db.specs.inner.Limits.{IsWithinLimits}
use Rattle.spec_events.specs.World.{World}
use Rattle.muck_machine.proofs.Keepings.{holds, sound_seen}
use Rattle.muck_machine.proofs.world.World.judge.Goals as goal

pub returns-clause-consistent : goal.returns-clause-consistent
returns-clause-consistent c = λ alive.
    let P : World → Type 0 = λ w. IsConsistent w.live.objects in
    holds P c.self.inside.past _ _ c.self.invariant c.self.view_is (subst P c.state.view_is c.count-count.ensures.consistent) alive

pub returns-clause-limits : goal.returns-clause-limits
returns-clause-limits c = λ alive.
    let P : World → Type 0 = λ w. IsWithinLimits w.live.objects in
    holds P c.self.inside.past _ _ c.self.invariant c.self.view_is (subst P c.state.view_is c.count-count.ensures.limits) alive

pub returns-clause-tuned : goal.returns-clause-tuned
returns-clause-tuned c = λ alive. (sound_seen c.self.inside.past _ _ c.self.invariant c.self.view_is alive).tuned
