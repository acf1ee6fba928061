use Rattle.std.proofs.Common.{◌≡◌, length}
use Rattle.muf_token.specs.inner.Places.{text_at}
use Rattle.muf_token.specs.inner.Spots.{spot_of}
use Rattle.muf_token.specs.inner.Readers.{state_of}
use Rattle.muf_token.specs.inner.Layers.{AreTaken}
use Rattle.muf_token.specs.Source.{words_from, words}
use Rattle.muf_token.proofs.source.tokens.Given as goal

-- the words from here on, with those so far, are the words of the source
abbrev pub invariant-loop-reader : goal.invariant-loop-reader
invariant-loop-reader g l = record {
  words : words_from (g.I.Includes.lent l.include) (state_of l.reader) (spot_of l.place) ≡ words (g.I.Includes.lent l.include) l.source;
  taken : AreTaken (g.I.Includes.lent l.include) l.reader.definitions;
}

abbrev pub decreases-loop-reader : goal.decreases-loop-reader
decreases-loop-reader g l = length (text_at l.place)
