use Rattle.std.proofs.Common.{◌≡◌, Some, None, ◌∙◌, subst}
use Rattle.muck_laws.proofs.Results.{if_ok_as, on_ok_as}
use Rattle.spec_live.specs.Boards.{editor_in}
use Rattle.spec_events.specs.World.{World}
use Rattle.spec_events.specs.Lines.{command, in_world, line_spoken}
use Rattle.muck_turns.specs.contracts.state.State as state
use Rattle.muck_turns.specs.inner.Hooks.{said_of}
use Rattle.muck_turns.proofs.Turns.{unedited_taken, unedited_said}
use Rattle.muck_turns.proofs.state.State.obey.Goals as goal

pub returns-in-None-clause-world : goal.returns-in-None-clause-world
returns-in-None-clause-world c =
    let P : World → Type 0 = λ v. c.in_world.new.self ≡ command (Some c.args.player) (editor_in c.args.d v.live.board) c.args.d c.args.line.now v in
    on_ok_as c.in_world.result (c.in_world.new.self ≡ in_world c.args.d c.args.player c.args.line.now (state.the_view (record c.self.inside { board = c.take_editor.new.self }))) _
    (λ e. subst P c.self.view_is (e ∙ unedited_taken c.args.d c.args.player c.args.line.now (state.the_view c.self.inside) c.take_editor.new.self c.in-None.ensures.editor c.in-None.ensures.rest)) c.in_world.ensures.world

pub returns-in-None-clause-said : goal.returns-in-None-clause-said
returns-in-None-clause-said c =
    if_ok_as c.in_world.result _ _
    (λ said k.
    let P : World → Type 0 = λ v. said_of said ≡ line_spoken None (Some c.args.player) (editor_in c.args.d v.live.board) c.args.d c.args.line.now v in
    subst P c.self.view_is (k ∙ unedited_said c.args.d c.args.player c.args.line.now (state.the_view c.self.inside) c.take_editor.new.self c.in-None.ensures.editor c.in-None.ensures.rest))
    c.in_world.ensures.said
