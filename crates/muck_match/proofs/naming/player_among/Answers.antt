use Rattle.std.proofs.Common.{◌∙◌, ap, Some}
use Rattle.muck_match.proofs.Listed.{least_named, none_named}
use Rattle.muck_match.proofs.naming.player_among.Goals as goal

pub returns-then-least-count : goal.returns-then-least-count
returns-then-least-count g c =
    ap (λ d. Some d) c.numbered-then-least-count.ensures
    ∙ least_named _ _ c.args.numbers.now _ _ _ c.objects-count.ensures.value c.requires c.loop-n-test.false c.loop-n.invariant.passed c.if-least-count.true (c.loop-n.invariant.named c.if-least-count.true)

pub returns-else-least-count : goal.returns-else-least-count
returns-else-least-count g c = none_named _ _ c.args.numbers.now _ _ _ c.objects-count.ensures.value c.requires c.loop-n-test.false c.loop-n.invariant.passed c.if-least-count.false
