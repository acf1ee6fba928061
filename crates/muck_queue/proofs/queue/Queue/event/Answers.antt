use Rattle.std.proofs.Common.{◌≡◌, Option, None, length, sym, ap, refl, arith}
use Rattle.std.specs.Prelude.{nat_le, is_some}
use Rattle.std.specs.Option.{option_map_or}
use Rattle.std.proofs.lemmas.Int.{to_z-of_z}
use Rattle.muf_model.specs.inner.View.{view}
use Rattle.muck_queue.specs.declared.process.Process.{Process}
use Rattle.muck_queue.specs.Queues.{process, told_event, events_most}
use Rattle.muck_queue.proofs.Changed.{changed_missing}
use Rattle.muck_queue.proofs.Kept.{stands_changed}
use Rattle.muck_queue.proofs.Known.{knows_changed, second_event}
use Rattle.muck_queue.proofs.queue.Queue.event.Goals as goal

pub returns-in_default : goal.returns-in_default
returns-in_default c =
    let h = c.ranges.pid in
    let there : None ≡ process c.args.pid c.args.self.now = simp to_z-of_z at c.in_default.ensures in
    let none : process c.args.pid c.args.self.now ≡ None = sym there in
    (sym (ap is_some none), ap (λ (o : Option Process). nat_le events_most (option_map_or (λ p. length p.events) o 0)) none, sym (changed_missing c.args.pid (told_event c.args.moment (c.args.name, view c.args.item)) c.args.self.now none))

pub invariant_of-self-2 : goal.invariant_of-self-2
invariant_of-self-2 c =
    let least = c.min-self-inside.ensures in (
      stands_changed _ (told_event c.args.moment (c.args.name, view c.args.item)) (λ p. refl) _ _ _ _ _ c.self.invariant.0 c.in_ok-give_event.ensures.ok,
      knows_changed _ _ _ (told_event c.args.moment (c.args.name, view c.args.item)) c.min-self-inside.result (omega arith) (λ p h. h) (second_event c.min-self-inside.result c.args.moment (c.args.name, view c.args.item) (omega arith)) _ _ c.self.invariant.1 c.in_ok-give_event.ensures.ok,
    )
