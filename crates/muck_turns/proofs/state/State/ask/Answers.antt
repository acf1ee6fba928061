use Rattle.std.proofs.Common.{ap, ◌∙◌, subst}
use Rattle.std.proofs.lemmas.Int.{to_z-of_z}
use Rattle.muck_laws.proofs.Results.{if_ok_as}
use Rattle.spec_events.specs.Following.{settled}
use Rattle.spec_events.specs.Slices.{deed, process_stands_at}
use Rattle.muck_turns.specs.inner.Deeds.{DoneAs}
use Rattle.muck_turns.specs.contracts.state.State as state
use Rattle.muck_turns.proofs.Slices.{done_so, rested_so, failed_so}
use Rattle.muck_turns.proofs.state.State.ask.Goals as goal

pub returns-in-Does : goal.returns-in-Does
returns-in-Does c =
    let h = c.ranges.pid in
    done_so c.args.pid c.args.agent.player (deed c.args.pid c.args.agent c.args.prim c.args.running c.args.self.now) c.args.running c.in-Does.next c.do_deed.new.self _
    (subst (λ d. DoneAs (deed c.args.pid c.args.agent c.args.prim c.args.running c.args.self.now) c.args.running c.do_deed.new.self d) c.in-Does.is (simp to_z-of_z at c.in_ok-next.ensures))
    (c.settle.ensures ∙ ap settled (ap (λ q. state.the_view (record c.self.inside { queue = q })) (simp to_z-of_z at c.put_back.ensures) ∙ ap (process_stands_at c.args.pid c.in-Does.next) c.self.view_is))

pub returns-in-Rests : goal.returns-in-Rests
returns-in-Rests c =
    let h = c.ranges.pid in
    rested_so c.args.pid c.args.agent.player (deed c.args.pid c.args.agent c.args.prim c.args.running c.args.self.now) c.args.running c.in-Rests.next c.do_deed.new.self _
    (subst (λ d. DoneAs (deed c.args.pid c.args.agent c.args.prim c.args.running c.args.self.now) c.args.running c.do_deed.new.self d) c.in-Rests.is (simp to_z-of_z at c.in_ok-next.ensures))
    (c.settle-in-Rests.ensures ∙ ap settled (ap (λ q. state.the_view (record c.self-in-Rests.inside { queue = q })) (simp to_z-of_z at c.put_back-in-Rests.ensures) ∙ ap (process_stands_at c.args.pid c.in-Rests.next) c.self-in-Rests.view_is))

pub returns-in-Fails : goal.returns-in-Fails
returns-in-Fails c =
    let h = c.ranges.pid in
    if_ok_as c.raise.result _ _
    (λ b k. failed_so c.args.pid c.args.agent.player (deed c.args.pid c.args.agent c.args.prim c.args.running c.args.self.now) c.args.running c.in-Fails.at c.in-Fails.fault c.do_deed.new.self c.raise.new.self b
    (subst (λ d. DoneAs (deed c.args.pid c.args.agent c.args.prim c.args.running c.args.self.now) c.args.running c.do_deed.new.self d) c.in-Fails.is (simp to_z-of_z at c.in_ok-next.ensures)) k)
    (simp to_z-of_z at c.raise.ensures)
