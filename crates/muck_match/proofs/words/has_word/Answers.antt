use Rattle.std.proofs.Common.{rules, tests}
use Rattle.std.proofs.lemmas.Iterator.Search.{any_from_yields_List}
use Rattle.std.proofs.lemmas.Iterator.Splits.{YieldsList-from_slice_split}
use Rattle.muck_match.specs.Words.{has_word, begins_alike}
use Rattle.muck_match.proofs.words.has_word.Goals as goal

pub returns : goal.returns
unfolding has_word
returns c =
    any_from_yields_List (begins_alike c.args.text.now) _ _ _ c.any.ensures.ran
    (YieldsList-from_slice_split _ _ c.args.name.now c.split.ensures.rest c.split.ensures.done c.split.ensures.closure (λ x r q k. search (rules, tests)))
    (λ x b q k. search rules)
