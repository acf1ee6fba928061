use Rattle.std.proofs.Common.{ap, ◌∙◌, sym, subst}
use Rattle.std.proofs.lemmas.Int.{to_z-of_z}
use Rattle.spec_events.specs.Slices.{process_stands_at, broken}
use Rattle.muck_turns.specs.inner.Limits.{Runs}
use Rattle.muck_turns.specs.contracts.state.State as state
use Rattle.muck_turns.proofs.Slices.{none_so, allows_as, through_so, spent_so, goes_so, stops_so, left_by}
use Rattle.muck_turns.proofs.state.State.stint.Goals as goal

pub returns-in_default : goal.returns-in_default
returns-in_default c =
    let h = c.ranges.pid in
    none_so c.args.tune.now c.args.pid c.args.left c.args.self.now c.lend.new.self (sym (simp to_z-of_z at c.in_default.ensures.seat)) (simp to_z-of_z at c.lend.ensures.out)

pub returns-in-Through : goal.returns-in-Through
returns-in-Through c =
    let h = c.ranges.pid in
    through_so c.args.tune.now c.args.pid c.in-Some.agent c.args.left c.in-Some.running c.args.self.now _ (sym (simp to_z-of_z at c.in-Some.ensures.seat)) c.next_allowance.result
    (allows_as c.args.tune.now c.args.pid c.args.left c.in-Some.agent c.in-Some.running c.args.self.now c.lend.new.self c.in_ok-actor.actor c.next_allowance.result (simp to_z-of_z at c.lend.ensures.out) c.in_ok-actor.ensures c.next_allowance.ensures)
    c.in-Through.is
    (ap (λ q. state.the_view (record c.self.inside { queue = q })) (simp to_z-of_z at c.put_back.ensures) ∙ ap (process_stands_at c.args.pid c.in-Some.running) (c.self.view_is ∙ (simp to_z-of_z at c.lend.ensures.out)))

pub returns-in_ok-end_broken-in-Spent : goal.returns-in_ok-end_broken-in-Spent
returns-in_ok-end_broken-in-Spent c =
    let h = c.ranges.pid in
    spent_so c.args.tune.now c.args.pid c.in-Some.agent c.args.left c.in-Some.running c.args.self.now _ (sym (simp to_z-of_z at c.in-Some.ensures.seat)) c.next_allowance.result
    (allows_as c.args.tune.now c.args.pid c.args.left c.in-Some.agent c.in-Some.running c.args.self.now c.lend.new.self c.in_ok-actor.actor c.next_allowance.result (simp to_z-of_z at c.lend.ensures.out) c.in_ok-actor.ensures c.next_allowance.ensures)
    c.in-Spent.fault _ c.in-Spent.is c.program-program.ensures
    ((simp to_z-of_z at c.in_ok-end_broken-in-Spent.ensures) ∙ ap (broken c.args.pid c.in-Some.agent.player c.program-program.result.0 c.in-Spent.fault) (simp to_z-of_z at c.lend.ensures.out))

pub returns-in_default-2 : goal.returns-in_default-2
returns-in_default-2 c =
    let h = c.ranges.pid in
    stops_so c.args.tune.now c.args.pid c.in-Some.agent c.args.left c.in-Some.running c.args.self.now _ (sym (simp to_z-of_z at c.in-Some.ensures.seat)) c.next_allowance.result
    (allows_as c.args.tune.now c.args.pid c.args.left c.in-Some.agent c.in-Some.running c.args.self.now c.lend.new.self c.in_ok-actor.actor c.next_allowance.result (simp to_z-of_z at c.lend.ensures.out) c.in_ok-actor.ensures c.next_allowance.ensures)
    c.in-Units.most c.lend.new.self c.in-Units.is (simp to_z-of_z at c.lend.ensures.out) (subst (Runs c.args.pid c.in-Some.agent c.in-Units.most c.in-Some.running c.lend.new.self c.run.new.self) c.in_default-2.is (simp to_z-of_z at c.in_ok-units-in-Units.ensures))

pub overflow_sub-result : goal.overflow_sub-result
overflow_sub-result c =
    let h = c.ranges.pid in
    let known = left_by c.args.tune.now c.args.pid c.in-Some.agent c.args.left c.in-Some.running c.args.self.now c.lend.new.self (sym (simp to_z-of_z at c.in-Some.ensures.seat)) c.next_allowance.result
    (allows_as c.args.tune.now c.args.pid c.args.left c.in-Some.agent c.in-Some.running c.args.self.now c.lend.new.self c.in_ok-actor.actor c.next_allowance.result (simp to_z-of_z at c.lend.ensures.out) c.in_ok-actor.ensures c.next_allowance.ensures)
    c.in-Units.most c.in-Some-2.units c.in-Units.is (subst (Runs c.args.pid c.in-Some.agent c.in-Units.most c.in-Some.running c.lend.new.self c.run.new.self) c.in-Some-2.is (simp to_z-of_z at c.in_ok-units-in-Units.ensures)).0 in
    known.1

pub returns-in-Some-2 : goal.returns-in-Some-2
returns-in-Some-2 c =
    let h = c.ranges.pid in
    goes_so c.args.tune.now c.args.pid c.in-Some.agent c.args.left c.in-Some.running c.args.self.now _ (sym (simp to_z-of_z at c.in-Some.ensures.seat)) c.next_allowance.result
    (allows_as c.args.tune.now c.args.pid c.args.left c.in-Some.agent c.in-Some.running c.args.self.now c.lend.new.self c.in_ok-actor.actor c.next_allowance.result (simp to_z-of_z at c.lend.ensures.out) c.in_ok-actor.ensures c.next_allowance.ensures)
    c.in-Units.most c.in-Some-2.units c.lend.new.self c.in-Units.is (simp to_z-of_z at c.lend.ensures.out) (subst (Runs c.args.pid c.in-Some.agent c.in-Units.most c.in-Some.running c.lend.new.self c.run.new.self) c.in-Some-2.is (simp to_z-of_z at c.in_ok-units-in-Units.ensures))
