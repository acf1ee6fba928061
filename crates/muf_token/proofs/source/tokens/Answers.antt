use Rattle.std.proofs.Common.{rules}
use Rattle.muf_token.specs.Source.{words_from, words}
use Rattle.muf_token.proofs.source.tokens.Goals as goal

pub loop-reader-init : goal.loop-reader-init
unfolding words_from words
loop-reader-init g c = record { words = search rules; taken = c.in_ok-reader.ensures.taken (g.I.Includes.lent c.args.include.now) }
