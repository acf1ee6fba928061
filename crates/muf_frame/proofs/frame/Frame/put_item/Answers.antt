use Rattle.std.proofs.Common.{length, refl, ap, sym, ◌∙◌, arith}
use Rattle.muck_laws.proofs.Turned.{inserted}
use Rattle.muf_frame.proofs.frame.Frame.put_item.Goals as goal

pub returns : goal.returns
returns c =
    rw (c.insert.ensures.items, c.in-Ok.is, ← c.self.view_is) (rw (inserted c.args.depth c.len.result c.self.inside.stack.items c.args.item (c.len.ensures.value ∙ ap (λ s. length s.stack) (sym c.self.view_is)) (omega (arith, c.requires.within, c.len.ensures.value))) refl)
