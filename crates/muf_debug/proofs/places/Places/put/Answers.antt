use Rattle.std.proofs.Common.{◌∙◌}
use Rattle.std.proofs.lemmas.Int.{to_z-of_z}
use Rattle.std.specs.FinMap.{insert}
use Rattle.muf_debug.proofs.Maps.{inserted}
use Rattle.muf_debug.proofs.places.Places.put.Goals as goal

pub returns-clause-ok : goal.returns-clause-ok
returns-clause-ok c =
    let h = c.ranges.pid in
    inserted c.args.pid c.args.spot c.self.inside.spots.entries c.insert.new.self.entries (simp to_z-of_z at c.in_ok-insert.ensures.updates.0)
    ∙ (λ i. insert (c.self.view_is i) c.args.pid c.args.spot)
