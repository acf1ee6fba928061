use Rattle.std.proofs.Common.{◌≡◌, ◌-◌, drop}
use Rattle.muf_token.specs.Expansion.{each_piece, expanded}
use Rattle.muf_token.specs.inner.Layers.{told}
use Rattle.muf_token.proofs.expansion.+expand.Given as goal

abbrev pub decreases-expand : goal.decreases-expand
decreases-expand l = l.deeper

-- what the rest of the definition puts out now is what the piece was to put out
abbrev pub invariant-loop-inner : goal.invariant-loop-inner
invariant-loop-inner l =
    expanded l.deeper (told l.definitions) l.line l.piece l.fn.out
    ≡ each_piece (expanded (l.deeper - 1) (told l.definitions) l.line) (drop l.inner-index l.inner-items) l.out
