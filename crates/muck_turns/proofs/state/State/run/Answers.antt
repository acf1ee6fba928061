use Rattle.std.proofs.Common.{◌+◌, true, false, Some, arith, sym, ap, ◌∙◌}
use Rattle.std.proofs.lemmas.Int.{to_z-of_z}
use Rattle.muck_queue.specs.Queues.{standing}
use Rattle.spec_events.specs.inner.Stints.{many_counted}
use Rattle.spec_events.specs.World.{World}
use Rattle.spec_events.specs.Slices.{acting, process_stands_at, ended_one}
use Rattle.muck_turns.specs.contracts.state.State as state
use Rattle.muck_turns.proofs.Slices.{fewer_so, going_so, acts_so, asking_so, asked_so, ended_so, faulted_so}
use Rattle.muck_turns.proofs.state.State.run.Goals as goal

pub overflow_add-units : goal.overflow_add-units
overflow_add-units c =
    let r = c.ranges.most in
    let fewer = fewer_so c.args.most c.in_ok-ran.field-0.units c.args.running c.in-Asking.at c.in-Asking.prim c.in_ok-ran.field-0.ran c.in_ok-ran.ensures.ran c.in-Asking.is c.in_ok-ran.ensures.units in
    omega arith

pub overflow_add-result : goal.overflow_add-result
overflow_add-result c =
    let r = c.ranges.most in
    let fewer = fewer_so c.args.most c.in_ok-ran.field-0.units c.args.running c.in-Asking.at c.in-Asking.prim c.in_ok-ran.field-0.ran c.in_ok-ran.ensures.ran c.in-Asking.is c.in_ok-ran.ensures.units in
    let same = c.from-then-goes_on.ensures in
    omega arith

pub returns-in-Going : goal.returns-in-Going
returns-in-Going c =
    let h = c.ranges.pid in
    going_so c.args.pid c.args.agent c.args.most c.in_ok-ran.field-0.units c.args.running c.args.self.now _ c.in_ok-ran.field-0.ran c.in_ok-ran.ensures.ran c.in_ok-ran.ensures.units c.in-Going.next c.from.result c.in-Going.is
    (ap (λ q. state.the_view (record c.self.inside { queue = q })) ((simp to_z-of_z at c.put_back.ensures) ∙ ap (standing c.args.pid (Some c.in-Going.next)) (simp to_z-of_z at c.count.ensures))
    ∙ ap (λ y. process_stands_at c.args.pid c.in-Going.next (many_counted c.in_ok-ran.field-0.units c.args.pid y)) c.self.view_is)
    c.from.ensures

pub ask-requires-clause-actor : goal.ask-requires-clause-actor
ask-requires-clause-actor c =
    acts_so c.args.pid c.args.agent c.args.most c.in_ok-ran.field-0.units c.args.running c.args.self.now c.args.self.now c.in_ok-ran.field-0.ran c.in_ok-ran.ensures.ran c.in_ok-ran.ensures.units c.in-Asking.prim c.in-Asking.at c.args.actor c.self.inside.db c.in-Asking.is
    (c.requires ∙ ap (λ (y : World). acting c.args.agent c.args.running y.live.objects) (sym c.self.view_is))

pub returns-then-goes_on : goal.returns-then-goes_on
returns-then-goes_on c =
    let h = c.ranges.pid in
    let same = c.from-then-goes_on.ensures in
    asking_so c.args.pid c.args.agent c.args.most c.in_ok-ran.field-0.units c.args.running c.args.self.now _ c.in_ok-ran.field-0.ran c.in_ok-ran.ensures.ran c.in_ok-ran.ensures.units c.in-Asking.prim c.in-Asking.at _ (c.in_ok-ran.field-0.units + 1) (c.from-then-goes_on.result + 1) _ c.in-Asking.is
    (omega arith) (ap (λ q. state.the_view (record c.self.inside { queue = q })) (simp to_z-of_z at c.count-in-Asking.ensures) ∙ ap (many_counted (c.in_ok-ran.field-0.units + 1) c.args.pid) c.self.view_is)
    c.if-goes_on.true (simp to_z-of_z at c.in_ok-goes_on-in-Asking.ensures) (omega arith)

pub returns-else-goes_on : goal.returns-else-goes_on
returns-else-goes_on c =
    let h = c.ranges.pid in
    asked_so c.args.pid c.args.agent c.args.most c.in_ok-ran.field-0.units c.args.running c.args.self.now _ c.in_ok-ran.field-0.ran c.in_ok-ran.ensures.ran c.in_ok-ran.ensures.units c.in-Asking.prim c.in-Asking.at _ (c.in_ok-ran.field-0.units + 1) _ c.in-Asking.is
    (omega arith) (ap (λ q. state.the_view (record c.self.inside { queue = q })) (simp to_z-of_z at c.count-in-Asking.ensures) ∙ ap (many_counted (c.in_ok-ran.field-0.units + 1) c.args.pid) c.self.view_is)
    c.if-goes_on.false (simp to_z-of_z at c.in_ok-goes_on-in-Asking.ensures)

pub returns-in-Ended : goal.returns-in-Ended
returns-in-Ended c =
    let h = c.ranges.pid in
    ended_so c.args.pid c.args.agent c.args.most c.in_ok-ran.field-0.units c.args.running c.args.self.now _ c.in_ok-ran.field-0.ran c.in_ok-ran.ensures.ran c.in_ok-ran.ensures.units c.in-Ended.is
    (ap (λ q. state.the_view (record c.self.inside { queue = q })) (simp to_z-of_z at c.kill.ensures.rest) ∙ ap (ended_one c.args.pid) c.self.view_is)

pub returns-in_ok-end_broken-in-Faulted : goal.returns-in_ok-end_broken-in-Faulted
returns-in_ok-end_broken-in-Faulted c =
    let h = c.ranges.pid in
    faulted_so c.args.pid c.args.agent c.args.most c.in_ok-ran.field-0.units c.args.running c.args.self.now _ c.in_ok-ran.field-0.ran c.in_ok-ran.ensures.ran c.in_ok-ran.ensures.units c.in-Faulted.fault c.program-program.result.0 c.in-Faulted.is c.program-program.ensures
    (simp to_z-of_z at c.in_ok-end_broken-in-Faulted.ensures)
