use Rattle.std.proofs.Common.{◌≡◌, length}
use Rattle.std.specs.List.{filter}
use Rattle.muck_match.specs.declared.naming.Fit.TheVariants.{Whole}
use Rattle.muck_match.specs.Scenery.{chain}
use Rattle.muck_match.specs.Naming.{candidate_chosen, joined, answers_to}
use Rattle.muck_match.proofs.Looks.{equals}
use Rattle.muck_match.proofs.glances.equal_in.Given as goal

abbrev pub invariant-loop-at : goal.invariant-loop-at
invariant-loop-at g l =
    joined l.found (candidate_chosen (filter (answers_to Whole l.text (g.S.Scene.shown l.scene)) (chain (g.S.Scene.after l.scene) l.at)))
    ≡ equals (g.S.Scene.shown l.scene) l.text l.fn.owner

abbrev pub decreases-loop-at : goal.decreases-loop-at
decreases-loop-at g l = length (chain (g.S.Scene.after l.scene) l.at)
