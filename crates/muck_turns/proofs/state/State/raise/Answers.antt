use Rattle.std.proofs.Common.{rules, ◌≡◌, ap, ◌∙◌, subst}
use Rattle.std.proofs.lemmas.Int.{to_z-of_z}
use Rattle.muf_running.specs.inner.Stints.{Raised}
use Rattle.spec_events.specs.Slices.{process_stands_at, broken}
use Rattle.muck_turns.proofs.Slices.{caught_so, uncaught_so}
use Rattle.muck_turns.proofs.state.State.raise.Goals as goal

pub returns-in-Some : goal.returns-in-Some
returns-in-Some c =
    let h = c.ranges.pid in
    let put : c.match-raised-2.self ≡ process_stands_at c.args.pid c.in-Some.caught c.args.self.now = search rules in
    caught_so c.args.pid c.args.player c.args.running.program.number c.args.raised c.args.running c.in-Some.caught c.args.self.now _
    (subst (Raised c.args.raised c.args.running) c.in-Some.is c.in_ok-caught.ensures) put

pub returns-in_ok-end_broken-in-None : goal.returns-in_ok-end_broken-in-None
returns-in_ok-end_broken-in-None c =
    let h = c.ranges.pid in
    uncaught_so c.args.pid c.args.player c.args.running.program.number c.args.raised c.args.running c.args.self.now _
    (subst (Raised c.args.raised c.args.running) c.in-None.is c.in_ok-caught.ensures)
    ((simp to_z-of_z at c.in_ok-end_broken-in-None.ensures) ∙ ap (λ k. broken c.args.pid c.args.player k c.args.raised c.args.self.now) c.program-program.ensures)
