use Rattle.std.proofs.Common.{◌≡◌, sym, ◌∙◌}
use Rattle.std.proofs.lemmas.Bool.{false≢true}
use Rattle.std.proofs.lemmas.Slice.Eq.{bytes_eq-Decides, slice_eq-Decides}
use Rattle.muck_prop.proofs.walk.is_entry.Goals as goal

pub returns-then-eq : goal.returns-then-eq
returns-then-eq c =
    let path : c.args.segments.now ≡ c.args.path.now = (slice_eq-Decides bytes_eq-Decides _ _ _ c.eq.ensures).0 c.if-eq.true ∙ c.path.view_is in
    (λ yes. (path, c.is_same.ensures.0 yes), λ same. c.is_same.ensures.1 same.1)

pub returns-else-eq : goal.returns-else-eq
returns-else-eq c =
    (λ yes. absurd (false≢true (sym c.if-eq.false ∙ yes)), λ same. (slice_eq-Decides bytes_eq-Decides _ _ _ c.eq.ensures).1 (same.0 ∙ sym c.path.view_is))
