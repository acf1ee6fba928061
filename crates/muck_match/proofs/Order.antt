-- Exit order, list by list.
use Rattle.std.proofs.Common.{◌≡◌, ℕ, Bool, false, List, ◌++◌, Option, None, Some, refl, sym, ◌∙◌, ap}
use Rattle.std.specs.List.{flat_map}
use Rattle.std.specs.Option.{option_or}
use Rattle.muck_model.specs.declared.dbref.Dbref.{Dbref}
use Rattle.muck_match.specs.Scenery.{Scenery, place_in_scenery, things_in, exit_order}
use Rattle.muck_match.specs.Exits.{first_item, hits_at, hits_on, hits}
use Rattle.muck_match.specs.declared.exits.ExitHit.{ExitHit}
use Rattle.muck_match.proofs.Lists.{first_append, flat_map_append, flat_map_twice}

first_of_both : (f : Dbref → List ExitHit) (ds es : List Dbref) → first_item (flat_map f (ds ++ es)) ≡ option_or (first_item (flat_map f ds)) (first_item (flat_map f es))
first_of_both f ds es = ap first_item (flat_map_append f ds es) ∙ first_append (flat_map f ds) (flat_map f es)

-- the exits on the objects of a list
on_each : (w : Scenery) (typed : Bool) (line : List ℕ) (ds : List Dbref) → flat_map (hits_at w typed line) (flat_map w.exits ds) ≡ flat_map (hits_on w typed line) ds
unfolding hits_on
on_each w typed line ds = flat_map_twice (hits_at w typed line) w.exits ds

-- what the five lists give first
abbrev pub five : Scenery → Bool → List ℕ → Dbref → Dbref → Option ExitHit
five w typed line player place =
    let each = λ (ds : List Dbref). first_item (flat_map (hits_on w typed line) ds) in
    option_or (first_item (hits_on w typed line place)) (option_or (each (things_in w player)) (option_or (each (things_in w place)) (option_or (first_item (hits_on w typed line player)) (each (w.places place)))))

five_here : (w : Scenery) (typed : Bool) (line : List ℕ) (player : Dbref) → first_item (hits w typed line player) ≡ five w typed line player (place_in_scenery w player)
unfolding hits exit_order hits_on
five_here w typed line player =
    let place = place_in_scenery w player in
    let f = hits_at w typed line in
    first_of_both f (w.exits place) _ ∙ ap (option_or (first_item (flat_map f (w.exits place))))
    (first_of_both f (flat_map w.exits (things_in w player)) _ ∙ joined (ap first_item (on_each w typed line (things_in w player)))
    (first_of_both f (flat_map w.exits (things_in w place)) _ ∙ joined (ap first_item (on_each w typed line (things_in w place)))
    (first_of_both f (w.exits player) _ ∙ ap (option_or (first_item (flat_map f (w.exits player)))) (ap first_item (on_each w typed line (w.places place))))))
  where
    joined : {a b c d : Option ExitHit} → a ≡ c → b ≡ d → option_or a b ≡ option_or c d
    joined e h = λ i. option_or (e i) (h i)

pub first_of_five : (w : Scenery) (typed : Bool) (line : List ℕ) (player place : Dbref) → place ≡ place_in_scenery w player → first_item (hits w typed line player) ≡ five w typed line player place
first_of_five w typed line player place e = five_here w typed line player ∙ ap (five w typed line player) (sym e)

or_three : (a b c r : Option ExitHit) → option_or a (option_or b (option_or c r)) ≡ option_or (option_or a (option_or b c)) r
or_three None None c r = refl
or_three None (Some h) c r = refl
or_three (Some h) b c r = refl

-- the same where what stands on things is known
pub besides : (w : Scenery) (line : List ℕ) (player place : Dbref) (here carried beside things found : Option ExitHit) → place ≡ place_in_scenery w player → here ≡ first_item (hits_on w false line place)
    → carried ≡ first_item (flat_map (hits_on w false line) (things_in w player)) → beside ≡ first_item (flat_map (hits_on w false line) (things_in w (place_in_scenery w player))) → things ≡ option_or carried beside → found ≡ option_or here things
    → first_item (hits w false line player) ≡ option_or found (option_or (first_item (hits_on w false line player)) (first_item (flat_map (hits_on w false line) (w.places place))))
besides w line player place here carried beside things found e of_here of_carried of_beside of_things of_found =
    let last : beside ≡ first_item (flat_map (hits_on w false line) (things_in w place)) = of_beside ∙ ap (λ d. first_item (flat_map (hits_on w false line) (things_in w d))) (sym e) in
    let whole : found ≡ option_or (first_item (hits_on w false line place)) (option_or (first_item (flat_map (hits_on w false line) (things_in w player))) (first_item (flat_map (hits_on w false line) (things_in w place)))) =
    of_found ∙ (λ i. option_or (of_here i) (of_things i)) ∙ (λ i. option_or (first_item (hits_on w false line place)) (option_or (of_carried i) (last i))) in
    first_of_five w false line player place e ∙ or_three (first_item (hits_on w false line place)) (first_item (flat_map (hits_on w false line) (things_in w player))) (first_item (flat_map (hits_on w false line) (things_in w place))) (option_or (first_item (hits_on w false line player)) (first_item (flat_map (hits_on w false line) (w.places place)))) ∙ ap (λ f. option_or f (option_or (first_item (hits_on w false line player)) (first_item (flat_map (hits_on w false line) (w.places place))))) (sym whole)
