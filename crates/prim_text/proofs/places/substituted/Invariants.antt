use Rattle.std.proofs.Common.{◌≡◌, ◌++◌, None, length}
use Rattle.muck_model.specs.Bytes.{text_fault}
use Rattle.muf_model.specs.Texts.{text_pieces, texts_joined}
use Rattle.muf_model.proofs.FaultTexts.{IsInside}
use Rattle.prim_text.proofs.places.substituted.Given as goal

abbrev pub invariant-loop-at : goal.invariant-loop-at
invariant-loop-at l =
    (l.made.items ++ texts_joined l.other (text_pieces l.sought l.rest) ≡ texts_joined l.other (text_pieces l.sought l.bytes))
    × (text_fault l.rest ≡ None)
    × IsInside l.made.items

abbrev pub decreases-loop-at : goal.decreases-loop-at
decreases-loop-at l = length l.rest
