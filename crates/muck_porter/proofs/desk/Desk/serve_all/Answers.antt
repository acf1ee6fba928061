use Rattle.std.specs.Prelude.{Ok}
use Rattle.std.proofs.Common.{ℕ, ◌+◌, ◌<◌, length, Option, arith, ap, subst}
use Rattle.muck_porter.specs.inner.Rounds.{Nearer}
use Rattle.muck_porter.specs.inner.Desks.{Far}
use Rattle.muck_porter.specs.inner.Reaches.{served_reach}
use Rattle.muck_porter.proofs.Going.{free_then, goes_as}
use Rattle.muck_porter.proofs.desk.Desk.serve_all.Goals as goal

pub loop-from-preserved : goal.loop-from-preserved
loop-from-preserved g c = free_then Far.free _ _ _ c.loop-from.invariant (goes_as _ _ _ _ (ap (λ (o : Option ℕ). served_reach (Ok o)) c.in-Ok-Some.field-0-is) c.in-Ok-Some.ensures.goes)

pub loop-from-smaller : goal.loop-from-smaller
loop-from-smaller g c =
    let p : length c.serve_one.new.self.peers.now.items + c.loop-from.from < length c.loop-from.self.peers.now.items + c.in-Ok-Some.next =
    subst (λ (o : Option ℕ). Nearer o c.loop-from.from c.loop-from.self.peers.now.items c.serve_one.new.self.peers.now.items) c.in-Ok-Some.field-0-is c.in-Ok-Some.ensures.place in
    let t = c.loop-from-test.true in
    omega arith

pub returns-in-Ok-None : goal.returns-in-Ok-None
returns-in-Ok-None g c = free_then Far.timed _ _ _ c.loop-from.invariant (goes_as _ _ _ _ (ap (λ (o : Option ℕ). served_reach (Ok o)) c.in-Ok-None.field-0-is) c.in-Ok-None.ensures.goes)
