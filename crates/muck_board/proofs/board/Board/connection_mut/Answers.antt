use Rattle.std.proofs.Common.{◌≡◌, Some, None, inl, refl, sym, ◌∙◌, ap}
use Rattle.std.specs.List.{position}
use Rattle.spec_live.specs.Connections.{is_connection}
use Rattle.muck_board.proofs.Numbered.{found_at, found_nowhere, written}
use Rattle.muck_board.proofs.board.Board.connection_mut.Goals as goal

pub returns-in_err-at : goal.returns-in_err-at
returns-in_err-at c =
    let s = c.self.inside in
    let none : position (is_connection c.args.d) s.connections.items ≡ None = ap (position (is_connection c.args.d)) (sym c.deref.ensures.value) ∙ sym c.place_of.ensures ∙ c.in_err-at.was in
    rw (c.from_residual.ensures, ← c.self.view_is) (refl, record { writes_back = tt; value = sym (found_nowhere c.args.d s.connections.items none) })

pub returns : goal.returns
returns c =
    let s = c.self.inside in
    let there : position (is_connection c.args.d) s.connections.items ≡ Some c.in_ok-at.at = ap (position (is_connection c.args.d)) (sym c.deref.ensures.value) ∙ sym c.place_of.ensures ∙ c.in_ok-at.was in
    rw (← c.self.view_is) (
      (λ i. inl (c.index_mut.result.ghost_name, λ w. (ap (λ cs. record { connections = cs; random = s.random; tune = s.tune }) (written c.args.d s.connections.items c.in_ok-at.at w there)) i)),
      record { writes_back = tt; value = sym (found_at c.args.d s.connections.items c.in_ok-at.at _ there c.index_mut.ensures.value) },
    )
