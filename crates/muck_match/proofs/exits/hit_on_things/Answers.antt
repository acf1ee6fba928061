use Rattle.std.proofs.Common.{sym, ◌∙◌, ap}
use Rattle.std.specs.List.{flat_map, filter}
use Rattle.muck_match.specs.Scenery.{things_in, sees, is_thing}
use Rattle.muck_match.specs.Exits.{first_item, hits_on}
use Rattle.muck_match.proofs.Lists.{chain_shorter, taken_of, passed_of, skipped, ended_of}
use Rattle.muck_match.proofs.exits.hit_on_things.Goals as goal
use Rattle.muck_match.proofs.exits.hit_on_things.Goals.{then-is_thing+in_default, else-is_thing}

pub loop-at-init : goal.loop-at-init
unfolding things_in
loop-at-init g c =
    ap (λ t. first_item (flat_map (hits_on (g.S.Scene.shown c.args.scene.now) c.args.typed c.args.line.now) (filter (sees (λ s. is_thing s.kind) (g.S.Scene.shown c.args.scene.now)) t)))
    (sym c.first_content-at.ensures)

pub returns-in-Some : goal.returns-in-Some
returns-in-Some g c = taken_of _ _ _ _ _ _ (sym c.is_nothing.ensures ∙ c.loop-at-test.true) (sym c.is_thing.ensures ∙ c.if-is_thing.true) (sym c.hit_on.ensures ∙ c.in-Some.is) c.loop-at.invariant

pub loop-at-smaller : goal.loop-at-smaller
loop-at-smaller g c = chain_shorter _ _ _ (sym c.is_nothing.ensures ∙ c.loop-at-test.true) c.next-at.ensures

pub loop-at-preserved : goal.loop-at-preserved
loop-at-preserved g c = elim c.if-is_thing.branch [
  | then-is_thing+in_default w ↦ passed_of _ _ _ _ _ _ (sym c.is_nothing.ensures ∙ c.loop-at-test.true) (sym c.is_thing.ensures ∙ w.if-is_thing.true) (sym w.hit_on.ensures ∙ w.in_default.is) c.next-at.ensures c.loop-at.invariant
  | else-is_thing w ↦ skipped _ _ _ _ _ _ (sym c.is_nothing.ensures ∙ c.loop-at-test.true) (sym c.is_thing.ensures ∙ w.if-is_thing.false) c.next-at.ensures c.loop-at.invariant
]

pub returns : goal.returns
returns g c = ended_of _ _ _ _ _ (sym c.is_nothing.ensures ∙ c.loop-at-test.false) c.loop-at.invariant
