use Rattle.std.proofs.Common.{◌∙◌, ap, map, rules, tests}
use Rattle.std.specs.Char.{to_ascii_lowercase}
use Rattle.std.specs.List.{filter}
use Rattle.std.proofs.lemmas.Iterator.Consumers.{YieldsList-end}
use Rattle.std.proofs.lemmas.Iterator.Splits.{YieldsList-from_slice_split}
use Rattle.muck_prop.specs.Paths.{is_slash, is_filled}
use Rattle.muck_prop.proofs.segments.Segments.of_text.Goals as goal

pub returns : goal.returns
returns c =
    let parts = YieldsList-end (YieldsList-from_slice_split _ is_slash c.args.text.now (cc) (cc) c.split-part-items.ensures.closure (λ x r q k. search (rules, tests))) c.loop-part.yielded _ c.loop-part.yielded_by _ _ c.in-None.is c.next.ensures.steps in
    c.in_ok-segments.ensures ∙ c.shrink_to_fit.ensures.items ∙ c.loop-part.invariant ∙ ap (λ ps. map (map to_ascii_lowercase) (filter is_filled ps)) parts.0
