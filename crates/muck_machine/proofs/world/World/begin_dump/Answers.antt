use Rattle.std.proofs.Common.{◌≡◌, refl}
use Rattle.muck_store.specs.inner.Changes.{LeavesOut, KeepsUndue}
use Rattle.muck_store.specs.Forms.{persist}
use Rattle.spec_events.specs.World.{World}
use Rattle.spec_events.specs.Histories.{now}
use Rattle.muck_machine.proofs.Keepings.{keeps_entered, keeps_lost, alive_now, holds, holds_here}
use Rattle.muck_machine.proofs.world.World.begin_dump.Goals as goal

pub begin_dump-requires : goal.begin_dump-requires
begin_dump-requires c = λ on.
    let P : World → Type 0 = λ w. KeepsUndue c.args.base.now w.live.objects in
    holds_here P c.self.inside.past _ _ c.self.invariant c.self.view_is (c.requires.kept on) (alive_now (now c.args.self.now) _ c.requires.lawful refl)

pub invariant_of-self : goal.invariant_of-self
invariant_of-self c = rw c.lose.ensures (keeps_lost c.self.inside.past c.args.party c.self.inside.state c.begin_dump.new.self c.self.invariant)

pub invariant_of-self-2 : goal.invariant_of-self-2
invariant_of-self-2 c =
    keeps_entered c.self.inside.past _ _ _ _ _ c.self.invariant c.self.view_is c.requires.lawful refl c.enter.ensures c.in-Ok.ensures.step

pub returns-clause-records : goal.returns-clause-records
returns-clause-records c =
    let P : World → Type 0 = λ w. LeavesOut c.args.base.now (persist w.live.objects) c.in-Ok.batch.records in
    holds P c.self.inside.past _ _ c.self.invariant c.self.view_is c.in-Ok.ensures.records (alive_now (now c.args.self.now) _ c.requires.lawful refl)

pub returns-clause-storable : goal.returns-clause-storable
returns-clause-storable c = c.in-Ok.ensures.storable

pub returns-clause-tune : goal.returns-clause-tune
returns-clause-tune c =
    let P : World → Type 0 = λ w. c.in-Ok.batch.tune ≡ w.live.board.tune in
    holds P c.self.inside.past _ _ c.self.invariant c.self.view_is c.in-Ok.ensures.tune (alive_now (now c.args.self.now) _ c.requires.lawful refl)

pub returns-clause-consistent : goal.returns-clause-consistent
returns-clause-consistent c = c.judge.ensures.consistent (alive_now (now c.args.self.now) _ c.requires.lawful refl)

pub returns-clause-limits : goal.returns-clause-limits
returns-clause-limits c = c.judge.ensures.limits (alive_now (now c.args.self.now) _ c.requires.lawful refl)

pub returns-clause-tuned : goal.returns-clause-tuned
returns-clause-tuned c = c.judge.ensures.tuned (alive_now (now c.args.self.now) _ c.requires.lawful refl)
