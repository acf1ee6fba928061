use Rattle.std.proofs.Common.{length}
use Rattle.muck_match.specs.Scenery.{chain}
use Rattle.muck_match.specs.inner.Glances.{Sees}
use Rattle.muck_match.proofs.glances.look_into.Given as goal

abbrev pub invariant-loop-at : goal.invariant-loop-at
invariant-loop-at g l = Sees (g.S.Scene.shown l.scene) l.text l.fn.owner l.seen (chain (g.S.Scene.after l.scene) l.at)

abbrev pub decreases-loop-at : goal.decreases-loop-at
decreases-loop-at g l = length (chain (g.S.Scene.after l.scene) l.at)
