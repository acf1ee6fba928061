use Rattle.std.proofs.Common.{ap, ◌∙◌, sym, subst, refl, arith}
use Rattle.std.proofs.lemmas.Int.{to_z-of_z}
use Rattle.spec_events.specs.Slices.{acting, process_stands_at, broken}
use Rattle.muck_turns.specs.declared.state.limits.Allowance.TheVariants.{Units}
use Rattle.muck_turns.specs.inner.Limits.{Allows, Runs}
use Rattle.muck_turns.specs.contracts.state.State as state
use Rattle.muck_turns.proofs.Slices.{none_so, allows_as, through_so, spent_so, goes_so, stops_so, left_by}
use Rattle.muck_turns.proofs.Seeing.{nobody_seen, through_seen, spent_seen, goes_seen, stops_seen}
use Rattle.muck_turns.proofs.state.State.stint_seen.Goals as goal

pub returns-in_default-clause-stops : goal.returns-in_default-clause-stops
returns-in_default-clause-stops g c =
    let h = c.ranges.pid in
    none_so c.args.tune.now c.args.pid c.args.left c.args.self.now c.lend.new.self (sym (simp to_z-of_z at c.in_default.ensures.seat)) (simp to_z-of_z at c.lend.ensures.out)

pub returns-in_default-clause-seen : goal.returns-in_default-clause-seen
returns-in_default-clause-seen g c =
    let h = c.ranges.pid in
    nobody_seen g.W.Watch.tells c.args.tune.now c.args.pid c.args.left c.args.self.now c.args.watch.now c.args.watch.now (sym (simp to_z-of_z at c.in_default.ensures.seat)) refl

pub returns-in-Through-clause-stops : goal.returns-in-Through-clause-stops
returns-in-Through-clause-stops g c =
    let h = c.ranges.pid in
    through_so c.args.tune.now c.args.pid c.in-Some.agent c.args.left c.in-Some.running c.args.self.now _ (sym (simp to_z-of_z at c.in-Some.ensures.seat)) c.next_allowance.result
    (allows_as c.args.tune.now c.args.pid c.args.left c.in-Some.agent c.in-Some.running c.args.self.now c.lend.new.self c.in_ok-actor.actor c.next_allowance.result (simp to_z-of_z at c.lend.ensures.out) c.in_ok-actor.ensures c.next_allowance.ensures)
    c.in-Through.is
    (ap (λ q. state.the_view (record c.self.inside { queue = q })) (simp to_z-of_z at c.put_back.ensures) ∙ ap (process_stands_at c.args.pid c.in-Some.running) (c.self.view_is ∙ (simp to_z-of_z at c.lend.ensures.out)))

pub returns-in-Through-clause-seen : goal.returns-in-Through-clause-seen
returns-in-Through-clause-seen g c =
    let h = c.ranges.pid in
    through_seen g.W.Watch.tells c.args.tune.now c.args.pid c.args.left c.args.self.now c.args.watch.now c.in-Some.agent c.in-Some.running (sym (simp to_z-of_z at c.in-Some.ensures.seat)) c.args.watch.now (subst (Allows c.args.tune.now (acting c.in-Some.agent c.in-Some.running c.args.self.now.live.objects).level c.args.left c.in-Some.agent) c.in-Through.is (allows_as c.args.tune.now c.args.pid c.args.left c.in-Some.agent c.in-Some.running c.args.self.now c.lend.new.self c.in_ok-actor.actor c.next_allowance.result (simp to_z-of_z at c.lend.ensures.out) c.in_ok-actor.ensures c.next_allowance.ensures)) refl

pub returns-in_ok-end_broken-in-Spent-clause-stops : goal.returns-in_ok-end_broken-in-Spent-clause-stops
returns-in_ok-end_broken-in-Spent-clause-stops g c =
    let h = c.ranges.pid in
    spent_so c.args.tune.now c.args.pid c.in-Some.agent c.args.left c.in-Some.running c.args.self.now _ (sym (simp to_z-of_z at c.in-Some.ensures.seat)) c.next_allowance.result
    (allows_as c.args.tune.now c.args.pid c.args.left c.in-Some.agent c.in-Some.running c.args.self.now c.lend.new.self c.in_ok-actor.actor c.next_allowance.result (simp to_z-of_z at c.lend.ensures.out) c.in_ok-actor.ensures c.next_allowance.ensures)
    c.in-Spent.fault _ c.in-Spent.is c.program-program.ensures
    ((simp to_z-of_z at c.in_ok-end_broken-in-Spent.ensures) ∙ ap (broken c.args.pid c.in-Some.agent.player c.program-program.result.0 c.in-Spent.fault) (simp to_z-of_z at c.lend.ensures.out))

pub returns-in_ok-end_broken-in-Spent-clause-seen : goal.returns-in_ok-end_broken-in-Spent-clause-seen
returns-in_ok-end_broken-in-Spent-clause-seen g c =
    let h = c.ranges.pid in
    spent_seen g.W.Watch.tells c.args.tune.now c.args.pid c.args.left c.args.self.now c.args.watch.now c.in-Some.agent c.in-Some.running (sym (simp to_z-of_z at c.in-Some.ensures.seat)) c.in-Spent.fault c.show.new.watch (subst (Allows c.args.tune.now (acting c.in-Some.agent c.in-Some.running c.args.self.now.live.objects).level c.args.left c.in-Some.agent) c.in-Spent.is (allows_as c.args.tune.now c.args.pid c.args.left c.in-Some.agent c.in-Some.running c.args.self.now c.lend.new.self c.in_ok-actor.actor c.next_allowance.result (simp to_z-of_z at c.lend.ensures.out) c.in_ok-actor.ensures c.next_allowance.ensures)) (simp to_z-of_z at c.in_ok-show-in-Spent.ensures)

pub returns-in_default-2-clause-stops : goal.returns-in_default-2-clause-stops
returns-in_default-2-clause-stops g c =
    let h = c.ranges.pid in
    let known = subst (Allows c.args.tune.now (acting c.in-Some.agent c.in-Some.running c.args.self.now.live.objects).level c.args.left c.in-Some.agent) c.in-Units.is (allows_as c.args.tune.now c.args.pid c.args.left c.in-Some.agent c.in-Some.running c.args.self.now c.lend.new.self c.in_ok-actor.actor c.next_allowance.result (simp to_z-of_z at c.lend.ensures.out) c.in_ok-actor.ensures c.next_allowance.ensures) in
    stops_so c.args.tune.now c.args.pid c.in-Some.agent c.args.left c.in-Some.running c.args.self.now _ (sym (simp to_z-of_z at c.in-Some.ensures.seat)) (Units 1) (omega arith, omega (arith, known.0, known.1)) 1 c.lend.new.self refl (simp to_z-of_z at c.lend.ensures.out) (subst (Runs c.args.pid c.in-Some.agent 1 c.in-Some.running c.lend.new.self c.run.new.self) c.in_default-2.is (simp to_z-of_z at c.in_ok-units-in-Units.ensures))

pub returns-in_default-2-clause-seen : goal.returns-in_default-2-clause-seen
returns-in_default-2-clause-seen g c =
    let h = c.ranges.pid in
    stops_seen g.W.Watch.tells c.args.tune.now c.args.pid c.args.left c.args.self.now c.args.watch.now c.in-Some.agent c.in-Some.running (sym (simp to_z-of_z at c.in-Some.ensures.seat)) _ c.lend.new.self c.run.new.self c.show-in-Units.new.watch (subst (Allows c.args.tune.now (acting c.in-Some.agent c.in-Some.running c.args.self.now.live.objects).level c.args.left c.in-Some.agent) c.in-Units.is (allows_as c.args.tune.now c.args.pid c.args.left c.in-Some.agent c.in-Some.running c.args.self.now c.lend.new.self c.in_ok-actor.actor c.next_allowance.result (simp to_z-of_z at c.lend.ensures.out) c.in_ok-actor.ensures c.next_allowance.ensures)) (simp to_z-of_z at c.lend.ensures.out) (subst (Runs c.args.pid c.in-Some.agent 1 c.in-Some.running c.lend.new.self c.run.new.self) c.in_default-2.is (simp to_z-of_z at c.in_ok-units-in-Units.ensures)) (simp to_z-of_z at c.in_ok-show-in-Units.ensures)

pub overflow_sub-result : goal.overflow_sub-result
overflow_sub-result g c =
    let h = c.ranges.pid in
    let known = subst (Allows c.args.tune.now (acting c.in-Some.agent c.in-Some.running c.args.self.now.live.objects).level c.args.left c.in-Some.agent) c.in-Units.is (allows_as c.args.tune.now c.args.pid c.args.left c.in-Some.agent c.in-Some.running c.args.self.now c.lend.new.self c.in_ok-actor.actor c.next_allowance.result (simp to_z-of_z at c.lend.ensures.out) c.in_ok-actor.ensures c.next_allowance.ensures) in
    let some = left_by c.args.tune.now c.args.pid c.in-Some.agent c.args.left c.in-Some.running c.args.self.now c.lend.new.self (sym (simp to_z-of_z at c.in-Some.ensures.seat)) (Units 1) (omega arith, omega (arith, known.0, known.1)) 1 c.in-Some-2.units refl ((subst (Runs c.args.pid c.in-Some.agent 1 c.in-Some.running c.lend.new.self c.run.new.self) c.in-Some-2.is (simp to_z-of_z at c.in_ok-units-in-Units.ensures))).0 in
    some.1

pub returns-in-Some-2-clause-stops : goal.returns-in-Some-2-clause-stops
returns-in-Some-2-clause-stops g c =
    let h = c.ranges.pid in
    let known = subst (Allows c.args.tune.now (acting c.in-Some.agent c.in-Some.running c.args.self.now.live.objects).level c.args.left c.in-Some.agent) c.in-Units.is (allows_as c.args.tune.now c.args.pid c.args.left c.in-Some.agent c.in-Some.running c.args.self.now c.lend.new.self c.in_ok-actor.actor c.next_allowance.result (simp to_z-of_z at c.lend.ensures.out) c.in_ok-actor.ensures c.next_allowance.ensures) in
    goes_so c.args.tune.now c.args.pid c.in-Some.agent c.args.left c.in-Some.running c.args.self.now _ (sym (simp to_z-of_z at c.in-Some.ensures.seat)) (Units 1) (omega arith, omega (arith, known.0, known.1)) 1 c.in-Some-2.units c.lend.new.self refl (simp to_z-of_z at c.lend.ensures.out) (subst (Runs c.args.pid c.in-Some.agent 1 c.in-Some.running c.lend.new.self c.run.new.self) c.in-Some-2.is (simp to_z-of_z at c.in_ok-units-in-Units.ensures))

pub returns-in-Some-2-clause-seen : goal.returns-in-Some-2-clause-seen
returns-in-Some-2-clause-seen g c =
    let h = c.ranges.pid in
    goes_seen g.W.Watch.tells c.args.tune.now c.args.pid c.args.left c.args.self.now c.args.watch.now c.in-Some.agent c.in-Some.running (sym (simp to_z-of_z at c.in-Some.ensures.seat)) _ c.in-Some-2.units c.lend.new.self c.run.new.self c.show-in-Units.new.watch (subst (Allows c.args.tune.now (acting c.in-Some.agent c.in-Some.running c.args.self.now.live.objects).level c.args.left c.in-Some.agent) c.in-Units.is (allows_as c.args.tune.now c.args.pid c.args.left c.in-Some.agent c.in-Some.running c.args.self.now c.lend.new.self c.in_ok-actor.actor c.next_allowance.result (simp to_z-of_z at c.lend.ensures.out) c.in_ok-actor.ensures c.next_allowance.ensures)) (simp to_z-of_z at c.lend.ensures.out) (subst (Runs c.args.pid c.in-Some.agent 1 c.in-Some.running c.lend.new.self c.run.new.self) c.in-Some-2.is (simp to_z-of_z at c.in_ok-units-in-Units.ensures)) (simp to_z-of_z at c.in_ok-show-in-Units.ensures)
