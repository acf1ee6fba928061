-- What a walk over objects has seen, object by object.
use Rattle.std.proofs.Common.{◌≡◌, ℕ, Bool, true, false, List, [], ◌∷◌, ◌++◌, Option, Some, None, refl, sym, ◌∙◌, ap, subst}
use Rattle.std.specs.Option.{option_or, option_map}
use Rattle.std.specs.List.{filter, flat_map}
use Rattle.muck_laws.proofs.Tests.{filter_append, filter_no, filter_yes}
use Rattle.muck_model.specs.declared.dbref.Dbref.{Dbref}
use Rattle.muck_match.specs.Scenery.{Scenery, sees, is_thing, is_nothing, chain, place_in_scenery, things_in}
use Rattle.muck_match.specs.Exits.{first_item, hits, hits_on}
use Rattle.muck_match.specs.declared.exits.ExitHit.{ExitHit}
use Rattle.muck_match.specs.declared.glances.Glance.{Glance}
use Rattle.muck_match.specs.declared.naming.Fit.TheVariants.{Whole, Part}
use Rattle.muck_match.specs.declared.naming.Found.{Found}
use Rattle.muck_match.specs.declared.naming.Found.TheVariants.{One, None as Nobody, Many}
use Rattle.muck_match.specs.Naming.{candidate_chosen, joined, one_of, found_or_else, is_nobody, answers_to, near, name_matched}
use Rattle.muck_match.specs.inner.Glances.{Sees}
use Rattle.muck_match.proofs.Candidates.{chosen_append, near_of_both}
use Rattle.muck_match.proofs.Lists.{first_append, flat_map_append, chain_step, chain_end}

joined_nobody : (a : Found) → joined a Nobody ≡ a
joined_nobody Nobody = refl
joined_nobody (One d) = refl
joined_nobody Many = refl

joined_assoc : (a b c : Found) → joined (joined a b) c ≡ joined a (joined b c)
joined_assoc Nobody b c = refl
joined_assoc (One d) Nobody c = refl
joined_assoc (One d) (One e) Nobody = refl
joined_assoc (One d) (One e) (One f) = refl
joined_assoc (One d) (One e) Many = refl
joined_assoc (One d) Many c = refl
joined_assoc Many b c = refl

or_none : (h : Option ExitHit) → option_or h None ≡ h
or_none None = refl
or_none (Some h) = refl

or_assoc : (a b c : Option ExitHit) → option_or (option_or a b) c ≡ option_or a (option_or b c)
or_assoc None b c = refl
or_assoc (Some h) b c = refl

-- One object.

pub one_fits : (p : Dbref → Bool) (d : Dbref) (a : Found) → p d ≡ true → joined a (One d) ≡ joined a (candidate_chosen (filter p (d ∷ [])))
one_fits p d a h = ap (λ ds. joined a (candidate_chosen ds)) (sym (filter_yes p d [] h))

pub one_fails : (p : Dbref → Bool) (d : Dbref) (a : Found) → p d ≡ false → a ≡ joined a (candidate_chosen (filter p (d ∷ [])))
one_fails p d a h = sym (joined_nobody a) ∙ ap (λ ds. joined a (candidate_chosen ds)) (sym (filter_no p d [] h))

first_alone : (xs : List ExitHit) → first_item (xs ++ []) ≡ first_item xs
first_alone [] = refl
first_alone (x ∷ xs) = refl

pub thing_hits : (f : Dbref → List ExitHit) (p : Dbref → Bool) (d : Dbref) (hit : Option ExitHit) → p d ≡ true → hit ≡ first_item (f d) → hit ≡ first_item (flat_map f (filter p (d ∷ [])))
thing_hits f p d hit h e = e ∙ sym (first_alone (f d)) ∙ ap (λ ds. first_item (flat_map f ds)) (sym (filter_yes p d [] h))

pub no_thing : (f : Dbref → List ExitHit) (p : Dbref → Bool) (d : Dbref) → p d ≡ false → ◌≡◌ {A = Option ExitHit} None (first_item (flat_map f (filter p (d ∷ []))))
no_thing f p d h = ap (λ ds. first_item (flat_map f ds)) (sym (filter_no p d [] h))

-- Many objects.

found_more : (p : Dbref → Bool) (d : Dbref) (left : List Dbref) (a b all : Found) → b ≡ joined a (candidate_chosen (filter p (d ∷ []))) → joined a (candidate_chosen (filter p (d ∷ left))) ≡ all → joined b (candidate_chosen (filter p left)) ≡ all
found_more p d left a b all e h =
    ap (λ x. joined x (candidate_chosen (filter p left))) e ∙ joined_assoc a _ _
    ∙ ap (joined a) (sym (chosen_append (filter p (d ∷ [])) (filter p left)) ∙ ap candidate_chosen (sym (filter_append p (d ∷ []) left))) ∙ h

hit_later : (f : Dbref → List ExitHit) (p : Dbref → Bool) (d : Dbref) (left : List Dbref) (a b all : Option ExitHit) → b ≡ option_or a (first_item (flat_map f (filter p (d ∷ []))))
    → option_or a (first_item (flat_map f (filter p (d ∷ left)))) ≡ all → option_or b (first_item (flat_map f (filter p left))) ≡ all
hit_later f p d left a b all e h =
    ap (λ x. option_or x (first_item (flat_map f (filter p left)))) e ∙ or_assoc a _ _
    ∙ ap (option_or a) (sym (first_append (flat_map f (filter p (d ∷ []))) (flat_map f (filter p left))) ∙ ap first_item (sym (flat_map_append f (filter p (d ∷ [])) (filter p left))) ∙ ap (λ ds. first_item (flat_map f ds)) (sym (filter_append p (d ∷ []) left)))
    ∙ h

-- Whole names.

pub equal_first : (p : Dbref → Bool) (left all : List Dbref) → all ≡ left → joined Nobody (candidate_chosen (filter p left)) ≡ candidate_chosen (filter p all)
equal_first p left all e = ap (λ ds. candidate_chosen (filter p ds)) (sym e)

pub equal_later : (p : Dbref → Bool) (after : Dbref → List Dbref) (d e : Dbref) (a b all : Found) → is_nothing d ≡ false → after d ≡ chain after e → b ≡ joined a (candidate_chosen (filter p (d ∷ []))) → joined a (candidate_chosen (filter p (chain after d))) ≡ all
    → joined b (candidate_chosen (filter p (chain after e))) ≡ all
equal_later p after d e a b all there to more before =
    found_more p d (chain after e) a b all more (subst (λ ds. joined a (candidate_chosen (filter p ds)) ≡ all) (chain_step after d there ∙ ap (λ ds. d ∷ ds) to) before)

pub equal_all : (p : Dbref → Bool) (after : Dbref → List Dbref) (d : Dbref) (a all : Found) → is_nothing d ≡ true → joined a (candidate_chosen (filter p (chain after d))) ≡ all → a ≡ all
equal_all p after d a all gone before = sym (joined_nobody a) ∙ subst (λ ds. joined a (candidate_chosen (filter p ds)) ≡ all) (chain_end after d gone) before

-- two that equal the text are many, whatever is left
pub equal_many : (p : Dbref → Bool) (after : Dbref → List Dbref) (d : Dbref) (a b all : Found) → is_nothing d ≡ false → b ≡ joined a (candidate_chosen (filter p (d ∷ []))) → joined a (candidate_chosen (filter p (chain after d))) ≡ all → b ≡ Many → b ≡ all
equal_many p after d a b all there more before many =
    many ∙ sym (ap (λ x. joined x (candidate_chosen (filter p (after d)))) many)
    ∙ found_more p d (after d) a b all more (subst (λ ds. joined a (candidate_chosen (filter p ds)) ≡ all) (chain_step after d there) before)

-- Parts of names, and exits.

pub seen_first : (w : Scenery) (text : List ℕ) (owner : Dbref) (left : List Dbref) (seen : Glance) → w.contents owner ≡ left → seen.part ≡ Nobody → seen.hit ≡ None → Sees w text owner seen left
unfolding things_in
seen_first w text owner left seen e part hit =
    record {
      part = ap (λ x. joined x (candidate_chosen (filter (answers_to Part text w) left))) part ∙ ap (λ ds. candidate_chosen (filter (answers_to Part text w) ds)) (sym e);
      hit = ap (λ x. option_or x (first_item (flat_map (hits_on w false text) (filter (sees (λ s. is_thing s.kind) w) left)))) hit ∙ ap (λ ds. first_item (flat_map (hits_on w false text) (filter (sees (λ s. is_thing s.kind) w) ds))) (sym e);
    }

pub seen_later : (w : Scenery) (text : List ℕ) (owner : Dbref) (after : Dbref → List Dbref) (d e : Dbref) (seen new : Glance) → is_nothing d ≡ false → after d ≡ chain after e
    → new.part ≡ joined seen.part (candidate_chosen (filter (answers_to Part text w) (d ∷ [])))
    → new.hit ≡ option_or seen.hit (first_item (flat_map (hits_on w false text) (filter (sees (λ s. is_thing s.kind) w) (d ∷ [])))) → Sees w text owner seen (chain after d) → Sees w text owner new (chain after e)
seen_later w text owner after d e seen new there to part hit before =
    let here : Sees w text owner seen (d ∷ chain after e) = subst (λ ds. Sees w text owner seen ds) (chain_step after d there ∙ ap (λ ds. d ∷ ds) to) before in
    record {
      part = found_more (answers_to Part text w) d (chain after e) seen.part new.part _ part here.part;
      hit = hit_later (hits_on w false text) (sees (λ s. is_thing s.kind) w) d (chain after e) seen.hit new.hit _ hit here.hit;
    }

pub seen_all : (w : Scenery) (text : List ℕ) (owner : Dbref) (after : Dbref → List Dbref) (d : Dbref) (seen : Glance) → is_nothing d ≡ true → Sees w text owner seen (chain after d) → Sees w text owner seen []
seen_all w text owner after d seen gone before = subst (λ ds. Sees w text owner seen ds) (chain_end after d gone) before

-- What a name stands for.

-- those in an object whose name equals the text
abbrev pub equals : Scenery → List ℕ → Dbref → Found
equals w text owner = candidate_chosen (filter (answers_to Whole text w) (w.contents owner))

near_whole : (w : Scenery) (text : List ℕ) (player place : Dbref) (carried beside whole : Found) → place ≡ place_in_scenery w player → carried ≡ equals w text player → beside ≡ equals w text place → whole ≡ joined carried beside → whole ≡ near w Whole text player
near_whole w text player place carried beside whole e s t is = is ∙ (λ i. joined (s i) (t i)) ∙ near_of_both w Whole text player place e

found_first : (a next : Found) → is_nobody a ≡ false → a ≡ found_or_else a next
found_first Nobody next h = absurd (cc (h))
found_first (One d) next h = refl
found_first Many next h = refl

none_first : (a next : Found) → is_nobody a ≡ true → next ≡ found_or_else a next
none_first Nobody next h = refl
none_first (One d) next h = absurd (cc (h))
none_first Many next h = absurd (cc (h))

pub named_many : (w : Scenery) (text : List ℕ) (player : Dbref) (carried : Found) → carried ≡ equals w text player → carried ≡ Many → Many ≡ name_matched w player text
unfolding name_matched
named_many w text player carried s many =
    let next = found_or_else (one_of (option_map (λ hit. hit.exit) (first_item (hits w false text player)))) (near w Part text player) in
    ap (λ x. found_or_else (joined x (equals w text (place_in_scenery w player))) next) (sym many ∙ s) ∙ ap (λ x. found_or_else x next) (near_of_both w Whole text player (place_in_scenery w player) refl)

pub named_whole : (w : Scenery) (text : List ℕ) (player place : Dbref) (carried beside whole : Found) → place ≡ place_in_scenery w player → carried ≡ equals w text player → beside ≡ equals w text place → whole ≡ joined carried beside → is_nobody whole ≡ false
    → whole ≡ name_matched w player text
unfolding name_matched
named_whole w text player place carried beside whole e s t is some =
    found_first whole _ some ∙ ap (λ x. found_or_else x (found_or_else (one_of (option_map (λ hit. hit.exit) (first_item (hits w false text player)))) (near w Part text player))) (near_whole w text player place carried beside whole e s t is)

-- what is known of exits
pub hits_known : (w : Scenery) (text : List ℕ) (owner : Dbref) (seen : Glance) → Sees w text owner seen [] → seen.hit ≡ first_item (flat_map (hits_on w false text) (things_in w owner))
hits_known w text owner seen s = sym (or_none seen.hit) ∙ s.hit

pub hits_known_in : (w : Scenery) (text : List ℕ) (owner place : Dbref) (seen : Glance) → owner ≡ place → Sees w text owner seen [] → seen.hit ≡ first_item (flat_map (hits_on w false text) (things_in w place))
hits_known_in w text owner place seen e s = hits_known w text owner seen s ∙ ap (λ d. first_item (flat_map (hits_on w false text) (things_in w d))) e

pub named_rest : (w : Scenery) (text : List ℕ) (player place : Dbref) (carried beside whole part found : Found) (own by : Glance) (hit : Option ExitHit) → place ≡ place_in_scenery w player → carried ≡ equals w text player → beside ≡ equals w text place → whole ≡ joined carried beside
    → is_nobody whole ≡ true → Sees w text player own [] → Sees w text place by [] → hit ≡ first_item (hits w false text player) → part ≡ joined own.part by.part → found ≡ found_or_else (one_of (option_map (λ h. h.exit) hit)) part → found ≡ name_matched w player text
unfolding name_matched
named_rest w text player place carried beside whole part found own by hit e s t is none u v of_hits of_parts of_found =
    let first_part = sym (joined_nobody own.part) ∙ u.part in
    let second_part = sym (joined_nobody by.part) ∙ v.part in
    let parts : part ≡ near w Part text player = of_parts ∙ (λ i. joined (first_part i) (second_part i)) ∙ near_of_both _ _ _ _ _ e in
    of_found ∙ (λ i. found_or_else (one_of (option_map (λ h. h.exit) (of_hits i))) (parts i)) ∙ none_first whole _ none
    ∙ ap (λ x. found_or_else x (found_or_else (one_of (option_map (λ hit. hit.exit) (first_item (hits w false text player)))) (near w Part text player))) (near_whole w text player place carried beside whole e s t is)
