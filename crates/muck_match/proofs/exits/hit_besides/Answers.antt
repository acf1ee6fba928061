use Rattle.std.proofs.Common.{sym, ◌∙◌, ap, false}
use Rattle.std.specs.List.{flat_map}
use Rattle.std.specs.Option.{option_or}
use Rattle.muck_match.specs.Exits.{first_item, hits_on}
use Rattle.muck_match.proofs.Order.{besides}
use Rattle.muck_match.proofs.exits.hit_besides.Goals as goal

pub returns-in-Some : goal.returns-in-Some
returns-in-Some g c =
    let w = g.S.Scene.shown c.args.scene.now in
    let above = first_item (flat_map (hits_on w false c.args.text.now) (w.places c.place_in-place.result)) in
    let own = first_item (hits_on w false c.args.text.now c.args.player) in
    let all = besides _ _ _ _ _ _ _ _ _ c.place_in-place.ensures c.hit_on-here.ensures c.requires.carried c.requires.beside c.or-things.ensures c.or.ensures in
    sym (all ∙ ap (λ f. option_or f (option_or own above)) c.in-Some.is)

pub returns-in-Some-hit_on : goal.returns-in-Some-hit_on
returns-in-Some-hit_on g c =
    let w = g.S.Scene.shown c.args.scene.now in
    let above = first_item (flat_map (hits_on w false c.args.text.now) (w.places c.place_in-place.result)) in
    let own = first_item (hits_on w false c.args.text.now c.args.player) in
    let all = besides _ _ _ _ _ _ _ _ _ c.place_in-place.ensures c.hit_on-here.ensures c.requires.carried c.requires.beside c.or-things.ensures c.or.ensures in
    sym (all ∙ ap (λ f. option_or f (option_or own above)) c.in_default.is ∙ ap (λ f. option_or f above) (sym c.hit_on.ensures ∙ c.in-Some-hit_on.is))

pub returns : goal.returns
returns g c =
    let w = g.S.Scene.shown c.args.scene.now in
    let above = first_item (flat_map (hits_on w false c.args.text.now) (w.places c.place_in-place.result)) in
    let own = first_item (hits_on w false c.args.text.now c.args.player) in
    let all = besides _ _ _ _ _ _ _ _ _ c.place_in-place.ensures c.hit_on-here.ensures c.requires.carried c.requires.beside c.or-things.ensures c.or.ensures in
    sym (all ∙ ap (λ f. option_or f (option_or own above)) c.in_default.is ∙ ap (λ f. option_or f above) (sym c.hit_on.ensures ∙ c.in_default-hit_on.is) ∙ sym c.hit_above.ensures)
