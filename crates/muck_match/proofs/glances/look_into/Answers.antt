use Rattle.std.proofs.Common.{sym, refl, ◌∙◌}
use Rattle.muck_match.proofs.Lists.{chain_shorter}
use Rattle.muck_match.proofs.Looks.{seen_first, seen_later, seen_all}
use Rattle.muck_match.proofs.glances.look_into.Goals as goal

pub loop-at-init : goal.loop-at-init
loop-at-init g c = seen_first _ _ _ _ _ c.first_content-at.ensures refl refl

pub loop-at-smaller : goal.loop-at-smaller
loop-at-smaller g c = chain_shorter _ _ _ (sym c.is_nothing.ensures ∙ c.loop-at-test.true) c.next-at.ensures

pub loop-at-preserved : goal.loop-at-preserved
loop-at-preserved g c = seen_later _ _ _ _ _ _ _ _ (sym c.is_nothing.ensures ∙ c.loop-at-test.true) c.next-at.ensures c.one_more-part.ensures c.hit_more-hit.ensures c.loop-at.invariant

pub returns : goal.returns
returns g c = seen_all _ _ _ _ _ _ (sym c.is_nothing.ensures ∙ c.loop-at-test.false) c.loop-at.invariant
