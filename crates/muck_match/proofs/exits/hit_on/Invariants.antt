use Rattle.std.proofs.Common.{◌≡◌, length}
use Rattle.std.specs.List.{flat_map}
use Rattle.muck_match.specs.Scenery.{chain}
use Rattle.muck_match.specs.Exits.{first_item, hits_at, hits_on}
use Rattle.muck_match.proofs.exits.hit_on.Given as goal

abbrev pub invariant-loop-at : goal.invariant-loop-at
invariant-loop-at g l =
    first_item (flat_map (hits_at (g.S.Scene.shown l.scene) l.typed l.line) (chain (g.S.Scene.after l.scene) l.at)) ≡ first_item (hits_on (g.S.Scene.shown l.scene) l.typed l.line l.fn.owner)

abbrev pub decreases-loop-at : goal.decreases-loop-at
decreases-loop-at g l = length (chain (g.S.Scene.after l.scene) l.at)
