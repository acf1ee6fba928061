use Rattle.std.proofs.Common.{length, refl, ap, sym, ◌∙◌, arith}
use Rattle.muck_laws.proofs.Turned.{removed}
use Rattle.muf_frame.proofs.frame.Frame.take_item.Goals as goal

pub returns-clause-rest : goal.returns-clause-rest
returns-clause-rest c =
    rw (c.remove.ensures.items, ← c.self.view_is) (rw (removed c.args.depth c.len.result c.self.inside.stack.items (c.len.ensures.value ∙ ap (λ s. length s.stack) (sym c.self.view_is)) (omega (arith, c.requires, c.len.ensures.value))) refl)
