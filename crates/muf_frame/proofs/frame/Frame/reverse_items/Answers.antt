use Rattle.std.proofs.Common.{length, refl, ap, sym, ◌∙◌, arith}
use Rattle.std.proofs.lemmas.List.{with_items_is}
use Rattle.muck_laws.proofs.Turned.{reversed_top}
use Rattle.muf_frame.proofs.frame.Frame.reverse_items.Goals as goal

pub returns : goal.returns
returns c =
    rw (with_items_is c.self.inside.stack c.reverse_from.new.items (c.reverse_from.ensures.len ∙ c.as_mut_slice.ensures.len), c.reverse_from.ensures.value, c.as_mut_slice.ensures.value, ← c.self.view_is) (rw (reversed_top c.args.count c.len.result c.self.inside.stack.items (c.len.ensures.value ∙ ap (λ s. length s.stack) (sym c.self.view_is)) (omega (arith, c.requires, c.len.ensures.value))) refl)
