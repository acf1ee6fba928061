use Rattle.muf_token.proofs.Words.{word_split}
use Rattle.muf_token.proofs.place.Place.word.Goals as goal

pub returns : goal.returns
returns c =
    rw (c.in_ok-lower_text.ensures, c.split_at.ensures.front, c.split_at.ensures.back)
    (word_split c.args.self.line c.args.self.here.now c.args.self.below.now c.word_len.result c.word_len.ensures.at)
