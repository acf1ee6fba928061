use Rattle.std.proofs.Common.{sym, ◌∙◌}
use Rattle.std.proofs.lemmas.Int.{to_z-of_z}
use Rattle.std.specs.FinMap.{get}
use Rattle.muf_debug.proofs.Maps.{get_is}
use Rattle.muf_debug.proofs.places.Places.get.Goals as goal

pub returns : goal.returns
returns c =
    let h = c.ranges.pid in
    (simp to_z-of_z at c.get.ensures.value) ∙ sym (get_is c.args.pid c.self.inside.spots.entries) ∙ (λ i. get (c.self.view_is i) c.args.pid)
