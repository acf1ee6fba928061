use Rattle.std.proofs.Common.{rules, ◌≡◌, ◌≤◌, ◌<◌, ◌+◌, length, drop, Some, None, Ok, Err}
use Rattle.muf_model.specs.declared.fault.MufFault.TheVariants.{NotCompiled, StackFull}
use Rattle.muf_model.specs.Answer.{stack_most}
use Rattle.muf_frame.specs.declared.fault.PrimFault.TheVariants.{Fault}
use Rattle.muf_frame.specs.inner.Shown.{flat, locked_by}
use Rattle.muck_perm.specs.inner.Guards.{world_of}
use Rattle.muck_queue.specs.Queues.{process}
use Rattle.prim_proc.specs.inner.Plans.{items_of}
use Rattle.prim_proc.proofs.Begun.{Started, alone, refused_so, untested_so, unplanned_so, unroomed_so, carried_so, all_taken, there_so}
use Rattle.prim_proc.proofs.Licences.{used_licensed, used_processes}
use Rattle.prim_proc.proofs.table.apply.Goals as goal

pub returns-in_default-clause-row : goal.returns-in_default-clause-row
returns-in_default-clause-row c =
    let f = c.args.frame.now in
    let g = c.args.guard.now in
    let none : process c.args.place.pid c.args.queue.now ≡ None = search rules in
    refused_so _ f g c.args.queue.now NotCompiled (alone c.args.prim c.args.place g.actor (locked_by (flat f).marks) (flat f).stack (world_of g) c.args.queue.now none)

pub returns-in_err-taken-clause-row : goal.returns-in_err-taken-clause-row
returns-in_err-taken-clause-row c =
    let h = c.in_err-taken.field-0.0 in
    let here : process c.args.place.pid c.args.queue.now ≡ Some c.in-Some.own.now = search rules in
    let was : c.ready_at.result ≡ Err h = search rules in
    let back : c.from_residual.result ≡ Err (Fault h) = search rules in
    let b : Started c.args.prim c.args.place c.args.frame.now c.args.guard.now c.args.queue.now c.in-Some.own.now c.ready_at.result = record { here = here; of_family = c.requires; pass = c.ready_at.ensures.pass } in
    rw back (untested_so b h was)

pub returns-in_err-plan-clause-row : goal.returns-in_err-plan-clause-row
returns-in_err-plan-clause-row c =
    let h = c.in_err-plan.field-0.0 in
    let n = c.in_ok-taken.taken in
    let here : process c.args.place.pid c.args.queue.now ≡ Some c.in-Some.own.now = search rules in
    let passed : c.ready_at.result ≡ Ok n = search rules in
    let was : c.plan.result ≡ Err h = search rules in
    let back : c.from_residual-in_err-plan.result ≡ Err h = search rules in
    let b : Started c.args.prim c.args.place c.args.frame.now c.args.guard.now c.args.queue.now c.in-Some.own.now c.ready_at.result = record { here = here; of_family = c.requires; pass = c.ready_at.ensures.pass } in
    rw back (unplanned_so b n passed c.in_ok-taken.ensures.count h c.plan.result c.plan.ensures was)

pub returns-in_err-test_room-clause-row : goal.returns-in_err-test_room-clause-row
returns-in_err-test_room-clause-row c =
    let h = c.in_err-test_room.field-0.0 in
    let n = c.in_ok-taken.taken in
    let plan = c.in_ok-plan.plan in
    let here : process c.args.place.pid c.args.queue.now ≡ Some c.in-Some.own.now = search rules in
    let passed : c.ready_at.result ≡ Ok n = search rules in
    let planned : c.plan.result ≡ Ok plan = search rules in
    let failed : c.test_room.result ≡ Err h = search rules in
    let back : c.from_residual-in_err-test_room.result ≡ Err (Fault h) = search rules in
    let full : (length (drop n (flat c.args.frame.now).stack) ≤ stack_most) × (stack_most < items_of plan + length (drop n (flat c.args.frame.now).stack)) × (h ≡ StackFull) = search rules in
    let b : Started c.args.prim c.args.place c.args.frame.now c.args.guard.now c.args.queue.now c.in-Some.own.now c.ready_at.result = record { here = here; of_family = c.requires; pass = c.ready_at.ensures.pass } in
    rw back (unroomed_so b n passed c.in_ok-taken.ensures.count plan c.plan.result c.plan.ensures planned full.0 full.1 h full.2)

pub carry_out-requires-clause-all : goal.carry_out-requires-clause-all
carry_out-requires-clause-all c =
    let n = c.in_ok-taken.taken in
    let plan = c.in_ok-plan.plan in
    let here : process c.args.place.pid c.args.queue.now ≡ Some c.in-Some.own.now = search rules in
    let passed : c.ready_at.result ≡ Ok n = search rules in
    let planned : c.plan.result ≡ Ok plan = search rules in
    let b : Started c.args.prim c.args.place c.args.frame.now c.args.guard.now c.args.queue.now c.in-Some.own.now c.ready_at.result = record { here = here; of_family = c.requires; pass = c.ready_at.ensures.pass } in
    all_taken b n passed c.in_ok-taken.ensures.count plan c.plan.result c.plan.ensures planned

pub returns-clause-row : goal.returns-clause-row
returns-clause-row c =
    let n = c.in_ok-taken.taken in
    let plan = c.in_ok-plan.plan in
    let here : process c.args.place.pid c.args.queue.now ≡ Some c.in-Some.own.now = search rules in
    let passed : c.ready_at.result ≡ Ok n = search rules in
    let planned : c.plan.result ≡ Ok plan = search rules in
    let room : items_of plan + length (drop n (flat c.args.frame.now).stack) ≤ stack_most = search rules in
    let b : Started c.args.prim c.args.place c.args.frame.now c.args.guard.now c.args.queue.now c.in-Some.own.now c.ready_at.result = record { here = here; of_family = c.requires; pass = c.ready_at.ensures.pass } in
    carried_so b n passed c.in_ok-taken.ensures.count plan c.plan.result c.plan.ensures planned room c.carry_out.new.frame c.carry_out.new.guard c.carry_out.new.queue c.carry_out.result c.carry_out.ensures

pub returns-clause-there : goal.returns-clause-there
returns-clause-there c = there_so c.args.prim c.requires

pub returns-in_default-clause-licensed : goal.returns-in_default-clause-licensed
returns-in_default-clause-licensed c = used_licensed c.args.frame.now c.args.frame.now c.args.guard.now c.args.guard.now c.args.queue.now c.args.queue.now c.args.prim c.args.place _ (returns-in_default-clause-row c)

pub returns-in_err-taken-clause-licensed : goal.returns-in_err-taken-clause-licensed
returns-in_err-taken-clause-licensed c = used_licensed c.args.frame.now c.args.frame.now c.args.guard.now c.args.guard.now c.args.queue.now c.args.queue.now c.args.prim c.args.place _ (returns-in_err-taken-clause-row c)

pub returns-in_err-plan-clause-licensed : goal.returns-in_err-plan-clause-licensed
returns-in_err-plan-clause-licensed c = used_licensed c.args.frame.now c.args.frame.now c.args.guard.now c.args.guard.now c.args.queue.now c.args.queue.now c.args.prim c.args.place _ (returns-in_err-plan-clause-row c)

pub returns-in_err-test_room-clause-licensed : goal.returns-in_err-test_room-clause-licensed
returns-in_err-test_room-clause-licensed c = used_licensed c.args.frame.now c.args.frame.now c.args.guard.now c.args.guard.now c.args.queue.now c.args.queue.now c.args.prim c.args.place _ (returns-in_err-test_room-clause-row c)

pub returns-clause-licensed : goal.returns-clause-licensed
returns-clause-licensed c = used_licensed c.args.frame.now c.carry_out.new.frame c.args.guard.now c.carry_out.new.guard c.args.queue.now c.carry_out.new.queue c.args.prim c.args.place _ (returns-clause-row c)

pub returns-in_default-clause-processes : goal.returns-in_default-clause-processes
returns-in_default-clause-processes c = used_processes c.args.frame.now c.args.frame.now c.args.guard.now c.args.guard.now c.args.queue.now c.args.queue.now c.args.prim c.args.place _ (returns-in_default-clause-row c)

pub returns-in_err-taken-clause-processes : goal.returns-in_err-taken-clause-processes
returns-in_err-taken-clause-processes c = used_processes c.args.frame.now c.args.frame.now c.args.guard.now c.args.guard.now c.args.queue.now c.args.queue.now c.args.prim c.args.place _ (returns-in_err-taken-clause-row c)

pub returns-in_err-plan-clause-processes : goal.returns-in_err-plan-clause-processes
returns-in_err-plan-clause-processes c = used_processes c.args.frame.now c.args.frame.now c.args.guard.now c.args.guard.now c.args.queue.now c.args.queue.now c.args.prim c.args.place _ (returns-in_err-plan-clause-row c)

pub returns-in_err-test_room-clause-processes : goal.returns-in_err-test_room-clause-processes
returns-in_err-test_room-clause-processes c = used_processes c.args.frame.now c.args.frame.now c.args.guard.now c.args.guard.now c.args.queue.now c.args.queue.now c.args.prim c.args.place _ (returns-in_err-test_room-clause-row c)

pub returns-clause-processes : goal.returns-clause-processes
returns-clause-processes c = used_processes c.args.frame.now c.carry_out.new.frame c.args.guard.now c.carry_out.new.guard c.args.queue.now c.carry_out.new.queue c.args.prim c.args.place _ (returns-clause-row c)
