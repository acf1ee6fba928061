use Rattle.std.proofs.Common.{ap, ◌∙◌}
use Rattle.std.specs.Prelude.{nat_lt}
use Rattle.std.specs.List.{position_or_len}
use Rattle.spec_live.specs.Connections.{connection_placed}
use Rattle.spec_live.specs.Boards.{connection_opened}
use Rattle.muck_board.proofs.Numbered.{inserted}
use Rattle.muck_board.proofs.board.Board.open.Goals as goal

pub returns-clause-ok : goal.returns-clause-ok
unfolding connection_opened
returns-clause-ok c =
    let s = c.self.inside in
    let cs = s.connections.items in
    let at = c.greater_at-at.ensures.at ∙ ap (position_or_len (λ x. nat_lt c.args.d x.number)) c.deref.ensures.value in
    ap (λ l. record { connections = l; random = s.random; tune = s.tune })
    (c.in_ok-insert.ensures.items ∙ inserted c.args.d c.in_ok-new.new cs _ (ap (λ x. x.number) c.in_ok-new.ensures) at ∙ ap (λ x. connection_placed x cs) c.in_ok-new.ensures)
    ∙ ap (connection_opened c.args.d c.args.greeting.now) c.self.view_is
