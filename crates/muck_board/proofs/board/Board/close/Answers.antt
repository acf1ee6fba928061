use Rattle.std.proofs.Common.{◌≡◌, Some, None, sym, ap, ◌∙◌}
use Rattle.std.specs.List.{position}
use Rattle.spec_live.specs.Connections.{is_connection}
use Rattle.spec_live.specs.Boards.{connection_closed}
use Rattle.muck_board.proofs.Numbered.{removed, removed_none}
use Rattle.muck_board.proofs.board.Board.close.Goals as goal

pub returns-in-Some : goal.returns-in-Some
unfolding connection_closed
returns-in-Some c =
    let s = c.self.inside in
    let there : position (is_connection c.args.d) s.connections.items ≡ Some c.in-Some.at = ap (position (is_connection c.args.d)) (sym c.deref.ensures.value) ∙ sym c.place_of.ensures ∙ c.in-Some.is in
    ap (λ cs. record { connections = cs; random = s.random; tune = s.tune }) (c.remove.ensures.items ∙ removed c.args.d s.connections.items c.in-Some.at there) ∙ ap (connection_closed c.args.d) c.self.view_is

pub returns-in_default : goal.returns-in_default
unfolding connection_closed
returns-in_default c =
    let s = c.self.inside in
    let none : position (is_connection c.args.d) s.connections.items ≡ None = ap (position (is_connection c.args.d)) (sym c.deref.ensures.value) ∙ sym c.place_of.ensures ∙ c.in_default.is in
    rw (← c.self.view_is) (ap (λ cs. record { connections = cs; random = s.random; tune = s.tune }) (removed_none c.args.d s.connections.items none))
