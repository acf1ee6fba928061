use Rattle.std.proofs.Common.{sym, ◌∙◌}
use Rattle.muck_prop.proofs.Parts.{part_fails, part_goes}
use Rattle.muck_prop.proofs.segments.Segments.is_text.Goals as goal

pub returns-in_default : goal.returns-in_default
returns-in_default c = sym (sym c.loop-left.invariant ∙ part_fails c.loop-left.rest.now c.loop-left.left.now c.count_before-n.result c.count_before-n.ensures.at c.in_default.ensures.none)

pub loop-left-preserved : goal.loop-left-preserved
loop-left-preserved c = part_goes c.loop-left.rest.now c.in-Some.more.now c.loop-left.left.now c.behind_part-left.result.now c.count_before-n.result c.count_before-n.ensures.at c.behind_part-left.ensures c.in-Some.ensures.some ∙ c.loop-left.invariant
