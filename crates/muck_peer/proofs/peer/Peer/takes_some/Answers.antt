use Rattle.std.proofs.Common.{rules, ap, sym, ◌∙◌, refl, subst, ◌<◌, arith, take, length}
use Rattle.std.proofs.lemmas.List.{with_items_is}
use Rattle.muck_laws.proofs.Numbers.{took_count, took_some}
use Rattle.muck_model.specs.declared.event.Event.TheVariants.{Take}
use Rattle.spec_events.specs.World.{queue_of}
use Rattle.spec_events.specs.Histories.{now, entered, by_porter}
use Rattle.spec_serve.specs.inner.Keeping.{Peer}
use Rattle.muck_peer.proofs.Stepping.{step_taken}
use Rattle.muck_peer.proofs.peer.Peer.takes_some.Goals as goal

pub returns : goal.returns
returns c =
    let some = subst (λ (p : Peer). 0 < length (queue_of p.number (now c.args.world.now))) (sym c.self.view_is) c.requires.some in
    let same = with_items_is c.self.inside.buffer c.take-n.new.buf (search rules) in (
      Take c.self.inside.number c.take-n.result,
      c.take-n.ensures.step ∙ took_some c.take-n.result c.args.world.now (entered c.args.world.now (by_porter (Take c.self.inside.number c.take-n.result))) (took_count _ c.take-n.result _ _ c.requires.alive c.take-n.ensures.count some (let l = ap length c.as_mut_slice.ensures.value in let i = c.self.invariant.2 in omega arith)),
      step_taken _ _ _ (now c.args.world.now) c.take-n.result c.self.view_is c.requires.none
          (ap (λ l. record { number = c.self.inside.number; cut = c.self.inside.cutter; unsent = take c.take-n.result l; ended = c.self.inside.ended; faulted = c.self.inside.faulted; refused = c.self.inside.refused; stalled = c.self.inside.stalled }) same
          ∙ ap (λ l. record { number = c.self.inside.number; cut = c.self.inside.cutter; unsent = l; ended = c.self.inside.ended; faulted = c.self.inside.faulted; refused = c.self.inside.refused; stalled = c.self.inside.stalled }) c.take-n.ensures.bytes),
      (λ w answers. refl),
    )
