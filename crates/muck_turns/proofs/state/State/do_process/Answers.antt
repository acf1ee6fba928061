use Rattle.std.proofs.Common.{rules, ◌≡◌, Ok, Err, sym, subst, drop, true, to_z, of_z, w32}
use Rattle.std.specs.Prelude.{is_some}
use Rattle.muck_laws.proofs.Truths.{moved}
use Rattle.muck_queue.specs.Queues.{process}
use Rattle.spec_events.specs.Slices.{place_of_use, queued}
use Rattle.muck_turns.specs.inner.Deeds.{DoneAs}
use Rattle.muf_frame.specs.declared.fault.PrimFault.TheVariants.{Fault}
use Rattle.prim_proc.specs.declared.after.After.TheVariants.{Go, Wait, Fork, Call, Queue}
use Rattle.muck_turns.proofs.Processes.{go_done, wait_done, fork_there, fork_done, call_at, call_items, call_done, queue_rejoins, queue_at, queue_items, queue_done, refused_done, if_done}
use Rattle.muck_turns.proofs.state.State.do_process.Goals as goal

pub returns-in-Ok-Go : goal.returns-in-Ok-Go
returns-in-Ok-Go c =
    let is : c.apply_process.result ≡ Ok Go = search rules in
    let here : c.in_ok-place.place ≡ place_of_use c.args.pid c.args.running c.args.self.now = search rules in
    go_done c.args.pid c.args.agent c.args.prim c.args.actor c.in_ok-place.place c.take_apart-programs.result.0 c.take_apart-programs.result.1 c.apply_process.new.frame c.args.self.now c.apply_process.new.self c.args.running c.apply_process.result c.requires.actor here c.take_apart-programs.ensures.apart c.take_apart-programs.ensures.shows c.apply_process.ensures c.passed.result is c.passed.ensures

pub returns-in-Ok-Wait : goal.returns-in-Ok-Wait
returns-in-Ok-Wait c =
    let is : c.apply_process.result ≡ Ok Wait = search rules in
    let here : c.in_ok-place.place ≡ place_of_use c.args.pid c.args.running c.args.self.now = search rules in
    wait_done c.args.pid c.args.agent c.args.prim c.args.actor c.in_ok-place.place c.take_apart-programs.result.0 c.take_apart-programs.result.1 c.apply_process.new.frame c.args.self.now c.apply_process.new.self c.args.running c.apply_process.result c.requires.actor here c.take_apart-programs.ensures.apart c.take_apart-programs.ensures.shows c.apply_process.ensures c.passed-in-Ok-Wait.result is c.passed-in-Ok-Wait.ensures

pub fork-requires : goal.fork-requires
fork-requires c =
    let is : c.apply_process.result ≡ Ok Fork = search rules in
    let here : c.in_ok-place.place ≡ place_of_use c.args.pid c.args.running c.args.self.now = search rules in
    let back : to_z w32 (of_z w32 c.args.pid) ≡ c.args.pid = search rules in
    subst (λ n. is_some (process n c.apply_process.new.self.queue) ≡ true) (sym back) (fork_there c.args.pid c.args.agent c.args.prim c.args.actor c.in_ok-place.place c.take_apart-programs.result.0 c.take_apart-programs.result.1 c.apply_process.new.frame c.args.self.now c.apply_process.new.self c.args.running c.apply_process.result c.requires.actor here c.take_apart-programs.ensures.apart c.take_apart-programs.ensures.shows c.apply_process.ensures is)

pub returns-in_ok-next-in-Ok-Fork : goal.returns-in_ok-next-in-Ok-Fork
returns-in_ok-next-in-Ok-Fork c =
    let is : c.apply_process.result ≡ Ok Fork = search rules in
    let here : c.in_ok-place.place ≡ place_of_use c.args.pid c.args.running c.args.self.now = search rules in
    let back : to_z w32 (of_z w32 c.args.pid) ≡ c.args.pid = search rules in
    fork_done c.args.pid c.args.agent c.args.prim c.args.actor c.in_ok-place.place c.take_apart-programs.result.0 c.take_apart-programs.result.1 c.apply_process.new.frame c.args.self.now c.apply_process.new.self c.args.running c.apply_process.result c.requires.actor here c.take_apart-programs.ensures.apart c.take_apart-programs.ensures.shows c.apply_process.ensures _ c.passed-in-Ok-Fork.result c.in_ok-next-in-Ok-Fork.next c.fork.new.self back is c.passed-in-Ok-Fork.ensures c.in_ok-next-in-Ok-Fork.ensures

pub do_call-requires-clause-at : goal.do_call-requires-clause-at
do_call-requires-clause-at c =
    let is : c.apply_process.result ≡ Ok (Call c.in-Ok-Call.program c.in-Ok-Call.word) = search rules in
    let here : c.in_ok-place.place ≡ place_of_use c.args.pid c.args.running c.args.self.now = search rules in
    call_at c.args.pid c.args.agent c.args.prim c.args.actor c.in_ok-place.place c.take_apart-programs.result.0 c.take_apart-programs.result.1 c.apply_process.new.frame c.args.self.now c.apply_process.new.self c.args.running c.apply_process.result c.requires.actor here c.take_apart-programs.ensures.apart c.take_apart-programs.ensures.shows c.apply_process.ensures c.in-Ok-Call.program c.in-Ok-Call.word c.rejoin.result is c.rejoin.ensures c.requires.at

pub do_call-requires-clause-items : goal.do_call-requires-clause-items
do_call-requires-clause-items c =
    let is : c.apply_process.result ≡ Ok (Call c.in-Ok-Call.program c.in-Ok-Call.word) = search rules in
    let here : c.in_ok-place.place ≡ place_of_use c.args.pid c.args.running c.args.self.now = search rules in
    call_items c.args.pid c.args.agent c.args.prim c.args.actor c.in_ok-place.place c.take_apart-programs.result.0 c.take_apart-programs.result.1 c.apply_process.new.frame c.args.self.now c.apply_process.new.self c.args.running c.apply_process.result c.requires.actor here c.take_apart-programs.ensures.apart c.take_apart-programs.ensures.shows c.apply_process.ensures c.in-Ok-Call.program c.in-Ok-Call.word c.rejoin.result is c.rejoin.ensures

pub returns-in-Ok-Call : goal.returns-in-Ok-Call
returns-in-Ok-Call c =
    let is : c.apply_process.result ≡ Ok (Call c.in-Ok-Call.program c.in-Ok-Call.word) = search rules in
    let here : c.in_ok-place.place ≡ place_of_use c.args.pid c.args.running c.args.self.now = search rules in
    if_done c.do_call.result _ _ (λ done h. call_done c.args.pid c.args.agent c.args.prim c.args.actor c.in_ok-place.place c.take_apart-programs.result.0 c.take_apart-programs.result.1 c.apply_process.new.frame c.args.self.now c.apply_process.new.self c.args.running c.apply_process.result c.requires.actor here c.take_apart-programs.ensures.apart c.take_apart-programs.ensures.shows c.apply_process.ensures c.in-Ok-Call.program c.in-Ok-Call.word c.rejoin.result c.do_call.new.self done is c.rejoin.ensures h) c.do_call.ensures

pub rejoin-requires-in-Ok-Queue : goal.rejoin-requires-in-Ok-Queue
rejoin-requires-in-Ok-Queue c =
    let is : c.apply_process.result ≡ Ok (Queue c.in-Ok-Queue.program c.in-Ok-Queue.delay c.in-Ok-Queue.argument) = search rules in
    let here : c.in_ok-place.place ≡ place_of_use c.args.pid c.args.running c.args.self.now = search rules in
    queue_rejoins c.args.pid c.args.agent c.args.prim c.args.actor c.in_ok-place.place c.take_apart-programs.result.0 c.take_apart-programs.result.1 c.apply_process.new.frame c.args.self.now c.apply_process.new.self c.args.running c.apply_process.result c.requires.actor here c.take_apart-programs.ensures.apart c.take_apart-programs.ensures.shows c.apply_process.ensures c.in-Ok-Queue.program c.in-Ok-Queue.delay c.in-Ok-Queue.argument is

pub do_queue-requires-clause-at : goal.do_queue-requires-clause-at
do_queue-requires-clause-at c =
    let is : c.apply_process.result ≡ Ok (Queue c.in-Ok-Queue.program c.in-Ok-Queue.delay c.in-Ok-Queue.argument) = search rules in
    let here : c.in_ok-place.place ≡ place_of_use c.args.pid c.args.running c.args.self.now = search rules in
    queue_at c.args.pid c.args.agent c.args.prim c.args.actor c.in_ok-place.place c.take_apart-programs.result.0 c.take_apart-programs.result.1 c.apply_process.new.frame c.args.self.now c.apply_process.new.self c.args.running c.apply_process.result c.requires.actor here c.take_apart-programs.ensures.apart c.take_apart-programs.ensures.shows c.apply_process.ensures c.in-Ok-Queue.program c.in-Ok-Queue.delay c.in-Ok-Queue.argument c.rejoin-in-Ok-Queue.result is c.rejoin-in-Ok-Queue.ensures c.requires.at

pub do_queue-requires-clause-items : goal.do_queue-requires-clause-items
do_queue-requires-clause-items c =
    let is : c.apply_process.result ≡ Ok (Queue c.in-Ok-Queue.program c.in-Ok-Queue.delay c.in-Ok-Queue.argument) = search rules in
    let here : c.in_ok-place.place ≡ place_of_use c.args.pid c.args.running c.args.self.now = search rules in
    queue_items c.args.pid c.args.agent c.args.prim c.args.actor c.in_ok-place.place c.take_apart-programs.result.0 c.take_apart-programs.result.1 c.apply_process.new.frame c.args.self.now c.apply_process.new.self c.args.running c.apply_process.result c.requires.actor here c.take_apart-programs.ensures.apart c.take_apart-programs.ensures.shows c.apply_process.ensures c.in-Ok-Queue.program c.in-Ok-Queue.delay c.in-Ok-Queue.argument c.rejoin-in-Ok-Queue.result is c.rejoin-in-Ok-Queue.ensures

pub returns-in_ok-call-in-Ok-Queue : goal.returns-in_ok-call-in-Ok-Queue
returns-in_ok-call-in-Ok-Queue c =
    let is : c.apply_process.result ≡ Ok (Queue c.in-Ok-Queue.program c.in-Ok-Queue.delay c.in-Ok-Queue.argument) = search rules in
    let here : c.in_ok-place.place ≡ place_of_use c.args.pid c.args.running c.args.self.now = search rules in
    if_done c.do_queue.result _ _ (λ done h. queue_done c.args.pid c.args.agent c.args.prim c.args.actor c.in_ok-place.place c.take_apart-programs.result.0 c.take_apart-programs.result.1 c.apply_process.new.frame c.args.self.now c.apply_process.new.self c.args.running c.apply_process.result c.requires.actor here c.take_apart-programs.ensures.apart c.take_apart-programs.ensures.shows c.apply_process.ensures c.in-Ok-Queue.program c.in-Ok-Queue.delay c.in-Ok-Queue.argument c.rejoin-in-Ok-Queue.result c.do_queue.new.self done c.in_ok-call-in-Ok-Queue.call is c.rejoin-in-Ok-Queue.ensures c.in_ok-call-in-Ok-Queue.ensures (λ y d argument e. moved (λ w. DoneAs (queued y (drop 3 c.rejoin-in-Ok-Queue.result.stack) d c.in-Ok-Queue.delay argument c.rejoin-in-Ok-Queue.result w) c.rejoin-in-Ok-Queue.result c.do_queue.new.self done) _ _ (h y d argument e) (search rules))) c.do_queue.ensures

pub returns-in-Err-Fault : goal.returns-in-Err-Fault
returns-in-Err-Fault c =
    let is : c.apply_process.result ≡ Err (Fault c.in-Err-Fault.fault) = search rules in
    let here : c.in_ok-place.place ≡ place_of_use c.args.pid c.args.running c.args.self.now = search rules in
    let known = refused_done c.args.pid c.args.agent c.args.prim c.args.actor c.in_ok-place.place c.take_apart-programs.result.0 c.take_apart-programs.result.1 c.apply_process.new.frame c.args.self.now c.apply_process.new.self c.args.running c.apply_process.result c.requires.actor here c.take_apart-programs.ensures.apart c.take_apart-programs.ensures.shows c.apply_process.ensures c.in-Err-Fault.fault c.rejoin-in-Err-Fault.result is c.rejoin-in-Err-Fault.ensures in
    (known.0, search (rules, known.1))
