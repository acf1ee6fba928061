use Rattle.std.proofs.Common.{length, refl, ap, sym, ◌∙◌, arith}
use Rattle.muck_laws.proofs.Turned.{below_depth}
use Rattle.muf_frame.proofs.frame.Frame.drop_items.Goals as goal

pub returns-clause-value : goal.returns-clause-value
returns-clause-value c =
    rw (c.truncate.ensures.items, ← c.self.view_is) (rw (below_depth c.args.count c.len.result c.self.inside.stack.items (c.len.ensures.value ∙ ap (λ s. length s.stack) (sym c.self.view_is)) (omega (arith, c.requires, c.len.ensures.value))) refl)
