use Rattle.std.proofs.Common.{◌≡◌, length}
use Rattle.std.specs.List.{filter, flat_map}
use Rattle.muck_match.specs.Scenery.{chain, sees, is_thing, things_in}
use Rattle.muck_match.specs.Exits.{first_item, hits_on}
use Rattle.muck_match.proofs.exits.hit_on_things.Given as goal

abbrev pub invariant-loop-at : goal.invariant-loop-at
invariant-loop-at g l =
    first_item (flat_map (hits_on (g.S.Scene.shown l.scene) l.typed l.line) (filter (sees (λ s. is_thing s.kind) (g.S.Scene.shown l.scene)) (chain (g.S.Scene.after l.scene) l.at)))
    ≡ first_item (flat_map (hits_on (g.S.Scene.shown l.scene) l.typed l.line) (things_in (g.S.Scene.shown l.scene) l.fn.owner))

abbrev pub decreases-loop-at : goal.decreases-loop-at
decreases-loop-at g l = length (chain (g.S.Scene.after l.scene) l.at)
