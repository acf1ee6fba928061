use Rattle.std.proofs.Common.{◌≡◌, ◌∙◌, subst, None}
use Rattle.muck_laws.proofs.Results.{if_ok_as, on_ok_as}
use Rattle.spec_live.specs.Boards.{editor_in}
use Rattle.muck_queue.specs.Queues.{reader}
use Rattle.spec_events.specs.World.{World, connection}
use Rattle.spec_events.specs.Lines.{line_for, first_line_done, spoken}
use Rattle.muck_turns.specs.contracts.state.State as state
use Rattle.muck_turns.specs.inner.Hooks.{said_of}
use Rattle.muck_turns.proofs.Turns.{line_taken, none_taken, line_said, none_said}
use Rattle.muck_turns.proofs.state.State.first_line.Goals as goal

pub returns-in-None-clause-world : goal.returns-in-None-clause-world
returns-in-None-clause-world c =
    let P : World → Type 0 = λ v. state.the_view (record c.self.inside { board = c.take_line.new.self }) ≡ first_line_done c.args.d (connection c.args.d v) v in
    subst P c.self.view_is (none_taken c.args.d (state.the_view c.self.inside) c.take_line.new.self c.in-None.ensures)

pub returns-in-None-clause-said : goal.returns-in-None-clause-said
returns-in-None-clause-said c =
    let P : World → Type 0 = λ v. None ≡ spoken c.args.d (connection c.args.d v) v in
    subst P c.self.view_is (none_said c.args.d (state.the_view c.self.inside) c.take_line.new.self c.in-None.ensures)

pub returns-in-Some-clause-world : goal.returns-in-Some-clause-world
returns-in-Some-clause-world c =
    let v = state.the_view (record c.self.inside { board = c.take_line.new.self }) in
    let player = c.in-Some.player in
    let line = c.in-Some.line in
    let P : World → Type 0 = λ w. c.bring.new.self ≡ first_line_done c.args.d (connection c.args.d w) w in
    on_ok_as c.bring.result (c.bring.new.self ≡ line_for (reader c.args.d v.queue) player (editor_in c.args.d v.live.board) c.args.d line v) _
    (λ e. subst P c.self.view_is (e ∙ line_taken c.args.d (state.the_view c.self.inside) c.take_line.new.self player line c.in-Some.ensures)) c.bring.ensures.world

pub returns-in-Some-clause-said : goal.returns-in-Some-clause-said
returns-in-Some-clause-said c =
    if_ok_as c.bring.result _ _
    (λ said k.
    let P : World → Type 0 = λ w. said_of said ≡ spoken c.args.d (connection c.args.d w) w in
    subst P c.self.view_is (k ∙ line_said c.args.d (state.the_view c.self.inside) c.take_line.new.self c.in-Some.player c.in-Some.line c.in-Some.ensures))
    c.bring.ensures.said
