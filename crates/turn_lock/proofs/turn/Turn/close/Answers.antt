use Rattle.std.proofs.Common.{sym, ◌∙◌, subst}
use mathlib.Core.Option.{some-injective}
use Rattle.turn_lock.proofs.Moves.{Whole, closes, one_state}
use Rattle.turn_lock.proofs.turn.Turn.close.Goals as goal

pub unreachable-requires : goal.unreachable-requires
unreachable-requires g c =
    let home = closes g.T.Story.history g.T.Story.party g.T.Story.start g.T.Story.allowed _ _ _ _ c.close_with-closed.ensures.values.2 c.requires.own.1 c.requires.own.2 c.requires.all in
    c.in_default.not-Some home.0 (some-injective _ _ (sym c.take-slot.ensures.value ∙ home.1))

pub returns : goal.returns
returns g c =
    let home = closes g.T.Story.history g.T.Story.party g.T.Story.start g.T.Story.allowed _ _ _ _ c.close_with-closed.ensures.values.2 c.requires.own.1 c.requires.own.2 c.requires.all in
    let is = some-injective _ _ (sym c.take-slot.ensures.value ∙ home.1) in
    let same = one_state {T = g.row.T.Denot} {E = g.row.T-Entry.Denot} {B = g.row.T-Start.Denot} g.T.Story.history g.T.Story.party g.T.Story.start g.T.Story.allowed home.0 c.in-Some.state c.take-slot.result is c.in-Some.is in
    let whole = subst (λ y. Whole g.T.Story.history g.T.Story.party g.T.Story.start g.T.Story.allowed y c.args.seat.me.0) (sym same) home.2 in
    record { seen = whole.seen; start = whole.began; own = whole.own; joined = whole.joined; known = whole.known; allowed = whole.allowed_all }
