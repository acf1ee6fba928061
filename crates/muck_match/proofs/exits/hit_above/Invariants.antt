use Rattle.std.proofs.Common.{◌≡◌, length}
use Rattle.std.specs.List.{flat_map}
use Rattle.muck_match.specs.Exits.{first_item, hits_on}
use Rattle.muck_match.proofs.exits.hit_above.Given as goal

abbrev pub invariant-loop-up : goal.invariant-loop-up
invariant-loop-up g l =
    first_item (flat_map (hits_on (g.S.Scene.shown l.scene) l.typed l.line) ((g.S.Scene.shown l.scene).places l.at))
    ≡ first_item (flat_map (hits_on (g.S.Scene.shown l.scene) l.typed l.line) ((g.S.Scene.shown l.scene).places l.fn.place))

abbrev pub decreases-loop-up : goal.decreases-loop-up
decreases-loop-up g l = length ((g.S.Scene.shown l.scene).places l.at)
