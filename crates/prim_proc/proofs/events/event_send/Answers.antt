use Rattle.std.proofs.Common.{rules, ◌≡◌, [], length, Some, Ok, Err, false, cond, w32, to_z, of_z, sym, ap, ◌∙◌, subst}
use Rattle.std.specs.Prelude.{nat_le, nat_lt}
use Rattle.muck_model.specs.Bytes.{text_most}
use Rattle.muf_model.specs.declared.fault.MufFault.TheVariants.{TooHeavy}
use Rattle.muf_model.specs.inner.View.{view}
use Rattle.muf_frame.specs.inner.Shown.{flat}
use Rattle.muck_queue.specs.Queues.{process, on_process, told_event, events_most}
use Rattle.spec_processes.specs.ProcessRows.{gives, refuses, event_name, event_data}
use Rattle.prim_proc.specs.inner.Sending.{DataMade}
use Rattle.prim_proc.specs.inner.Taken.{sent_in}
use Rattle.prim_proc.proofs.Taking.{event_send_at}
use Rattle.prim_proc.proofs.Sendings.{sent_light, few_events, unmade}
use Rattle.prim_proc.proofs.events.event_send.Goals as goal

pub returns-in_err-item : goal.returns-in_err-item
returns-in_err-item c = λ w.
    let x = c.args.place in
    let a = c.args.guard.now.actor in
    let own = c.args.own.now in
    let q = c.args.queue.now in
    let i = to_z w32 (of_z w32 c.in-Some.pid) in
    let name = event_name c.in-Some.name.now in
    let value = event_data x a own (view c.in-Some.item.now) in
    let seen : sent_in (flat c.args.frame.now).stack ≡ Some (i, c.in-Some.name.now, view c.in-Some.item.now) = search rules in
    let here : process i q ≡ Some c.in-Some-get.other.now = search rules in
    let few : nat_le events_most (length c.in-Some-get.other.now.events) ≡ false = search rules in
    let short : nat_lt text_most (length name) ≡ false = search rules in
    let copied : view c.in_ok-copy.field-0 ≡ view c.in-Some.item.now = search rules in
    let was : c.event_data.result ≡ Err c.in_err-item.field-0.0 = search rules in
    let back : c.from_residual-in_err-item.result ≡ Err c.in_err-item.field-0.0 = search rules in
    rw back (unmade x i name w q c.in-Some-get.other.now a own (view c.in-Some.item.now) c.in_err-item.field-0.0 few short here _
    (event_send_at x a own w q (flat c.args.frame.now).stack i c.in-Some.name.now (view c.in-Some.item.now) seen)
    (subst (DataMade x a own (view c.in-Some.item.now)) was (subst (λ v. DataMade x a own v c.event_data.result) copied c.event_data.ensures)))

pub returns : goal.returns
returns c = λ w.
    let x = c.args.place in
    let a = c.args.guard.now.actor in
    let own = c.args.own.now in
    let q = c.args.queue.now in
    let i = to_z w32 (of_z w32 c.in-Some.pid) in
    let name = event_name c.in-Some.name.now in
    let value = event_data x a own (view c.in-Some.item.now) in
    let seen : sent_in (flat c.args.frame.now).stack ≡ Some (i, c.in-Some.name.now, view c.in-Some.item.now) = search rules in
    let here : process i q ≡ Some c.in-Some-get.other.now = search rules in
    let few : nat_le events_most (length c.in-Some-get.other.now.events) ≡ false = search rules in
    let short : nat_lt text_most (length name) ≡ false = search rules in
    let named : c.in_ok-name.name ≡ name = search rules in
    let copied : view c.in_ok-copy.field-0 ≡ view c.in-Some.item.now = search rules in
    let was : c.event_data.result ≡ Ok c.in_ok-item.item = search rules in
    let made : DataMade x a own (view c.in-Some.item.now) (Ok c.in_ok-item.item) = subst (DataMade x a own (view c.in-Some.item.now)) was (subst (λ v. DataMade x a own v c.event_data.result) copied c.event_data.ensures) in
    ap (λ b. cond b (refuses TooHeavy) (gives [] w (on_process i (told_event x.moment (c.in_ok-name.name, view c.in_ok-item.item)) q))) (few_events x i name value w q c.in-Some-get.other.now few here)
    ∙ ap (λ n. gives [] w (on_process i (told_event x.moment (n, view c.in_ok-item.item)) q)) named
    ∙ ap (λ v. gives [] w (on_process i (told_event x.moment (name, v)) q)) made.1
    ∙ sym (event_send_at x a own w q (flat c.args.frame.now).stack i c.in-Some.name.now (view c.in-Some.item.now) seen ∙ sent_light x i name value w q c.in-Some-get.other.now few short made.0 here)
