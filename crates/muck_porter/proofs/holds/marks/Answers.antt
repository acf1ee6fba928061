use Rattle.std.proofs.Common.{true≢false, refl, sym, ◌∙◌}
use Rattle.muck_porter.specs.inner.Turns.{MarkedIn}
use Rattle.muck_porter.proofs.holds.marks.Goals as goal

pub returns-then-noted : goal.returns-then-noted
returns-then-noted g c = MarkedIn.kept refl refl (λ n dead. absurd (true≢false (sym c.if-noted.true ∙ n)))

pub returns-then-is_dead : goal.returns-then-is_dead
returns-then-is_dead g c = MarkedIn.kept refl refl (λ n dead. absurd (true≢false (sym c.if-is_dead.true ∙ c.is_dead.ensures.dead ∙ dead)))

pub returns-then-not-is_stopping : goal.returns-then-not-is_stopping
returns-then-not-is_stopping g c = MarkedIn.kept refl refl (λ n dead. sym (c.is_stopping.ensures dead) ∙ c.if-not-is_stopping.true)

pub returns : goal.returns
returns g c =
    let alive = sym c.is_dead.ensures.dead ∙ c.if-is_dead.false in
    MarkedIn.made c.if-noted.false refl (sym (c.is_stopping.ensures alive) ∙ c.if-not-is_stopping.false) alive (c.requires c.if-noted.false) c.note_links.ensures
