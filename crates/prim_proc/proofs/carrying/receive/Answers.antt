use Rattle.std.proofs.Common.{rules, ◌≡◌, ◌∷◌, drop, Some, None, sym, ap, ◌∙◌, subst}
use Rattle.muf_model.specs.Datum.{text}
use Rattle.muf_frame.specs.inner.Shown.{flat}
use Rattle.muck_queue.specs.declared.mode.Wait.TheVariants.{ForEvent}
use Rattle.muck_queue.specs.Queues.{oldest_event, on_process, resting, without_event}
use Rattle.muck_queue.specs.inner.Events.{shown}
use Rattle.prim_proc.specs.declared.after.After.TheVariants.{Go, Wait}
use Rattle.prim_proc.specs.inner.Applied.{HasStack}
use Rattle.prim_proc.specs.inner.Plans.{GivenOf}
use Rattle.prim_proc.proofs.Planned.{first_event, no_event, none_taken}
use Rattle.prim_proc.proofs.Room.{room_steps}
use Rattle.prim_proc.proofs.carrying.receive.Goals as goal

pub returns-in-Some : goal.returns-in-Some
returns-in-Some c =
    let pid = c.args.place.pid in
    let e = shown c.in-Some.event in
    let rest = drop c.args.taken (flat c.args.frame.now).stack in
    let oldest : oldest_event pid c.args.queue.now ≡ Some e = search rules in
    let stack : HasStack (text e.0 ∷ e.1 ∷ rest) c.args.frame.now c.push_item-in-Some.new.self = search (rules, room_steps) in
    let left : c.take_event.new.self ≡ on_process pid without_event c.args.queue.now = search rules in
    subst (λ es. GivenOf es c.args.place rest c.args.frame.now c.push_item-in-Some.new.self c.args.queue.now c.take_event.new.self Go) (sym (first_event pid c.args.queue.now e oldest)) (stack, left)

pub returns-in-None : goal.returns-in-None
returns-in-None c =
    let pid = c.args.place.pid in
    let rest = drop c.args.taken (flat c.args.frame.now).stack in
    let none : oldest_event pid c.args.queue.now ≡ None = search rules in
    let stack : HasStack rest c.args.frame.now c.drop_items.new.self = search (rules, room_steps) in
    let left : c.take_event.new.self ≡ on_process pid without_event c.args.queue.now = search rules in
    let waits : c.rest.new.self ≡ on_process pid (resting ForEvent) c.take_event.new.self = search rules in
    let same : c.rest.new.self ≡ on_process pid (resting ForEvent) c.args.queue.now = waits ∙ ap (on_process pid (resting ForEvent)) (left ∙ none_taken pid c.args.queue.now none) in
    subst (λ es. GivenOf es c.args.place rest c.args.frame.now c.drop_items.new.self c.args.queue.now c.rest.new.self Wait) (sym (no_event pid c.args.queue.now none)) (stack, same)
