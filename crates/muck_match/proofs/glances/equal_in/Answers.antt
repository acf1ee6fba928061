use Rattle.std.proofs.Common.{sym, ◌∙◌, ◌≡◌, rules}
use Rattle.muck_match.specs.declared.naming.Found.TheVariants.{Many}
use Rattle.muck_match.proofs.Lists.{chain_shorter}
use Rattle.muck_match.proofs.Looks.{equal_first, equal_later, equal_all, equal_many}
use Rattle.muck_match.proofs.glances.equal_in.Goals as goal

pub loop-at-init : goal.loop-at-init
loop-at-init g c = equal_first _ _ _ c.first_content-at.ensures

pub returns-then-matches : goal.returns-then-matches
returns-then-matches g c =
    let many : c.one_more-found.result ≡ Many = search rules in
    equal_many _ _ _ _ _ _ (sym c.is_nothing.ensures ∙ c.loop-at-test.true) c.one_more-found.ensures c.loop-at.invariant many

pub loop-at-smaller : goal.loop-at-smaller
loop-at-smaller g c = chain_shorter _ _ _ (sym c.is_nothing.ensures ∙ c.loop-at-test.true) c.next-at.ensures

pub loop-at-preserved : goal.loop-at-preserved
loop-at-preserved g c = equal_later _ _ _ _ _ _ _ (sym c.is_nothing.ensures ∙ c.loop-at-test.true) c.next-at.ensures c.one_more-found.ensures c.loop-at.invariant

pub returns : goal.returns
returns g c = equal_all _ _ _ _ _ (sym c.is_nothing.ensures ∙ c.loop-at-test.false) c.loop-at.invariant
