use Rattle.std.proofs.Common.{sym, ◌∙◌, ap}
use Rattle.std.specs.List.{flat_map}
use Rattle.muck_match.specs.Exits.{first_item, hits_on, hits_at}
use Rattle.muck_match.proofs.Lists.{chain_shorter, taken, passed, ended}
use Rattle.muck_match.proofs.exits.hit_on.Goals as goal

pub loop-at-init : goal.loop-at-init
unfolding hits_on
loop-at-init g c = ap (λ t. first_item (flat_map (hits_at (g.S.Scene.shown c.args.scene.now) c.args.typed c.args.line.now) t)) (sym c.first_exit-at.ensures)

pub returns-in-Some : goal.returns-in-Some
returns-in-Some g c = taken _ _ _ _ _ (sym c.is_nothing.ensures ∙ c.loop-at-test.true) (sym c.hit_at.ensures ∙ c.in-Some.is) c.loop-at.invariant

pub loop-at-smaller : goal.loop-at-smaller
loop-at-smaller g c = chain_shorter _ _ _ (sym c.is_nothing.ensures ∙ c.loop-at-test.true) c.next-at.ensures

pub loop-at-preserved : goal.loop-at-preserved
loop-at-preserved g c = passed _ _ _ _ _ (sym c.is_nothing.ensures ∙ c.loop-at-test.true) (sym c.hit_at.ensures ∙ c.in_default.is) c.next-at.ensures c.loop-at.invariant

pub returns : goal.returns
returns g c = ended _ _ _ _ (sym c.is_nothing.ensures ∙ c.loop-at-test.false) c.loop-at.invariant
