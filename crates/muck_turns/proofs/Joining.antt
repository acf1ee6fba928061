-- A process that is to join the others.
use Rattle.std.proofs.Common.{◌≡◌, ℤ, true, false, refl, sym, ◌∙◌, ap, subst}
use Rattle.std.specs.Prelude.{Result, Ok, Err}
use Rattle.std.proofs.lemmas.Bool.{cond-true, cond-false}
use Rattle.muck_model.specs.declared.tune.Tune.{Tune}
use Rattle.muf_model.specs.declared.fault.MufFault.{MufFault}
use Rattle.muf_model.specs.declared.fault.MufFault.TheVariants.{ProcessLimit}
use Rattle.muck_queue.specs.declared.process.Process.{Process}
use Rattle.muck_queue.specs.declared.fault.QueueFault.{QueueFault}
use Rattle.muck_queue.specs.declared.fault.QueueFault.TheVariants.{ProcessLimit as Limit, NoMemory as Wanted, TooManyEvents}
use Rattle.muck_queue.specs.inner.Adding.{Adds}
use Rattle.muck_queue.specs.Queues.{Queue, is_queue_full, process_added}
use Rattle.spec_events.specs.World.{World}
use Rattle.spec_events.specs.Starting.{process_joined}
use Rattle.muck_turns.specs.declared.state.deeds.DeedFault.{DeedFault}
use Rattle.muck_turns.specs.declared.state.deeds.DeedFault.TheVariants.{Fault, NoMemory}
use Rattle.muck_turns.specs.inner.Deeds.{Begins, IsAdding, StartsAs}

-- no process is added for too many events
pub is_adding : (p : Process) (tune : Tune) (old new : Queue) (r : Result ℤ QueueFault) → Adds p tune old new r → IsAdding r
is_adding p tune old new (Ok n) h = tt
is_adding p tune old new (Err Limit) h = tt
is_adding p tune old new (Err Wanted) h = tt
is_adding p tune old new (Err TooManyEvents) h = h

-- nothing is said where memory was wanted
wanted : (r : World × Result ℤ MufFault) (v : World) → Begins r v (Err NoMemory)
wanted (w, Ok n) v = tt
wanted (w, Err f) v = tt

module _ (p : Process) (w : World) (q : Queue) (tune : Tune) (t : tune ≡ w.live.board.tune) where
  -- there is room for it
  room_joined : (n : ℤ) → is_queue_full p.player tune w.queue ≡ false → n ≡ q.last → q ≡ process_added p w.queue → Begins (process_joined p w) (record w { queue = q }) (Ok n)
  unfolding process_added
  room_joined n room last is =
      subst (λ r. Begins r (record w { queue = q }) (Ok n)) (sym (cond-false _ _ _ (ap (λ x. is_queue_full p.player x w.queue) (sym t) ∙ room)))
      (last ∙ ap (λ (x : Queue). x.last) is, ap (λ x. record w { queue = x }) is)

  -- and where there is none
  full_joined : is_queue_full p.player tune w.queue ≡ true → q ≡ w.queue → Begins (process_joined p w) (record w { queue = q }) (Err (Fault ProcessLimit))
  full_joined full is =
      subst (λ r. Begins r (record w { queue = q }) (Err (Fault ProcessLimit))) (sym (cond-true _ _ _ (ap (λ x. is_queue_full p.player x w.queue) (sym t) ∙ full)))
      (refl, ap (λ x. record w { queue = x }) is)

  pub joins : (r : Result ℤ QueueFault) (result : Result ℤ DeedFault) → Adds p tune w.queue q r → StartsAs r result → Begins (process_joined p w) (record w { queue = q }) result
  joins (Ok n) (Ok m) h k = subst (λ x. Begins (process_joined p w) (record w { queue = q }) (Ok x)) (sym k) (room_joined n h.0 h.1 h.2)
  joins (Ok n) (Err e) h k = absurd k
  joins (Err Limit) (Err (Fault f)) h k = subst (λ x. Begins (process_joined p w) (record w { queue = q }) (Err (Fault x))) (sym k) (full_joined h.0 h.1)
  joins (Err Limit) (Err NoMemory) h k = absurd k
  joins (Err Limit) (Ok m) h k = absurd k
  joins (Err Wanted) (Err NoMemory) h k = wanted (process_joined p w) (record w { queue = q })
  joins (Err Wanted) (Err (Fault f)) h k = absurd k
  joins (Err Wanted) (Ok m) h k = absurd k
  joins (Err TooManyEvents) result h k = absurd h
