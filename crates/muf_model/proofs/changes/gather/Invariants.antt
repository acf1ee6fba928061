use Rattle.std.proofs.Common.{◌≡◌, length, map}
use Rattle.muf_model.specs.inner.View.{pair_view}
use Rattle.muf_model.specs.Entries.{gathered, Rising}
use Rattle.muf_model.proofs.Edited.{onto}
use Rattle.muf_model.proofs.changes.gather.Given as goal

abbrev pub invariant-loop-pair : goal.invariant-loop-pair
invariant-loop-pair l =
    (onto (map pair_view l.left.items) (map pair_view l.made.items) ≡ gathered (map pair_view l.fn.pairs.items))
    × Rising (map pair_view l.made.items)

abbrev pub decreases-loop-pair : goal.decreases-loop-pair
decreases-loop-pair l = length l.left.items
