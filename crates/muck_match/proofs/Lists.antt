-- The first of what stands in lists, and lists that are walked from object to object.
use Rattle.std.proofs.Common.{◌≡◌, ◌<◌, Bool, true, false, List, [], ◌∷◌, ◌++◌, Option, Some, None, refl, sym, ◌∙◌, ap, length, arith, append_assoc}
use Rattle.std.specs.List.{filter, flat_map}
use Rattle.std.specs.Option.{option_or}
use Rattle.muck_laws.proofs.Tests.{filter_no, filter_yes}
use Rattle.muck_model.specs.declared.dbref.Dbref.{Dbref}
use Rattle.muck_match.specs.Scenery.{is_nothing, chain}
use Rattle.muck_match.specs.Exits.{first_item}

pub first_some : {X : Type 0} (xs ys : List X) (x : X) → first_item xs ≡ Some x → first_item (xs ++ ys) ≡ Some x
first_some [] ys x h = absurd (cc)
first_some (y ∷ xs) ys x h = h

pub first_none : {X : Type 0} (xs ys : List X) → first_item xs ≡ None → first_item (xs ++ ys) ≡ first_item ys
first_none [] ys h = refl
first_none (y ∷ xs) ys h = absurd (cc)

pub chain_end : (after : Dbref → List Dbref) (d : Dbref) → is_nothing d ≡ true → chain after d ≡ []
unfolding chain
chain_end after d h = rw h refl

pub chain_step : (after : Dbref → List Dbref) (d : Dbref) → is_nothing d ≡ false → chain after d ≡ d ∷ after d
unfolding chain
chain_step after d h = rw h refl

-- a step along a list makes it shorter
pub chain_shorter : (after : Dbref → List Dbref) (d e : Dbref) → is_nothing d ≡ false → after d ≡ chain after e → length (chain after e) < length (chain after d)
chain_shorter after d e h to = omega (arith, ap length (chain_step after d h), ap length to)

-- the first that the objects of a list give
pub first_here : {X : Type 0} (f : Dbref → List X) (d : Dbref) (ds : List Dbref) (x : X) → first_item (f d) ≡ Some x → first_item (flat_map f (d ∷ ds)) ≡ Some x
first_here f d ds x h = first_some (f d) (flat_map f ds) x h

pub first_later : {X : Type 0} (f : Dbref → List X) (d : Dbref) (ds : List Dbref) → first_item (f d) ≡ None → first_item (flat_map f (d ∷ ds)) ≡ first_item (flat_map f ds)
first_later f d ds h = first_none (f d) (flat_map f ds) h

pub flat_map_append : {X : Type 0} (f : Dbref → List X) (ds es : List Dbref) → flat_map f (ds ++ es) ≡ flat_map f ds ++ flat_map f es
flat_map_append f [] es = refl
flat_map_append f (d ∷ ds) es = ap (λ t. f d ++ t) (flat_map_append f ds es) ∙ sym (append_assoc (f d) (flat_map f ds) (flat_map f es))

pub flat_map_twice : {X : Type 0} (f : Dbref → List X) (g : Dbref → List Dbref) (ds : List Dbref) → flat_map f (flat_map g ds) ≡ flat_map (λ d. flat_map f (g d)) ds
flat_map_twice f g [] = refl
flat_map_twice f g (d ∷ ds) = flat_map_append f (g d) (flat_map g ds) ∙ ap (λ t. flat_map f (g d) ++ t) (flat_map_twice f g ds)

-- where the list that is left gives first what the whole one gives
pub taken : {X : Type 0} (f : Dbref → List X) (after : Dbref → List Dbref) (d : Dbref) (x : X) (whole : Option X) → is_nothing d ≡ false → first_item (f d) ≡ Some x
    → first_item (flat_map f (chain after d)) ≡ whole → Some x ≡ whole
taken f after d x whole there here left = sym (first_here f d (after d) x here) ∙ ap (λ t. first_item (flat_map f t)) (sym (chain_step after d there)) ∙ left

pub passed : {X : Type 0} (f : Dbref → List X) (after : Dbref → List Dbref) (d e : Dbref) (whole : Option X) → is_nothing d ≡ false → first_item (f d) ≡ None → after d ≡ chain after e
    → first_item (flat_map f (chain after d)) ≡ whole → first_item (flat_map f (chain after e)) ≡ whole
passed f after d e whole there here to left =
    ap (λ t. first_item (flat_map f t)) (sym to) ∙ sym (first_later f d (after d) here) ∙ ap (λ t. first_item (flat_map f t)) (sym (chain_step after d there)) ∙ left

pub ended : {X : Type 0} (f : Dbref → List X) (after : Dbref → List Dbref) (d : Dbref) (whole : Option X) → is_nothing d ≡ true → first_item (flat_map f (chain after d)) ≡ whole → None ≡ whole
ended f after d whole gone left = ap (λ t. first_item (flat_map f t)) (sym (chain_end after d gone)) ∙ left

-- the same where only the objects that pass a test count
pub taken_of : {X : Type 0} (f : Dbref → List X) (p : Dbref → Bool) (after : Dbref → List Dbref) (d : Dbref) (x : X) (whole : Option X) → is_nothing d ≡ false → p d ≡ true → first_item (f d) ≡ Some x
    → first_item (flat_map f (filter p (chain after d))) ≡ whole → Some x ≡ whole
taken_of f p after d x whole there fits here left =
    sym (first_here f d (filter p (after d)) x here) ∙ ap (λ t. first_item (flat_map f t)) (sym (filter_yes p d (after d) fits)) ∙ ap (λ t. first_item (flat_map f (filter p t))) (sym (chain_step after d there)) ∙ left

pub passed_of : {X : Type 0} (f : Dbref → List X) (p : Dbref → Bool) (after : Dbref → List Dbref) (d e : Dbref) (whole : Option X) → is_nothing d ≡ false → p d ≡ true → first_item (f d) ≡ None → after d ≡ chain after e
    → first_item (flat_map f (filter p (chain after d))) ≡ whole → first_item (flat_map f (filter p (chain after e))) ≡ whole
passed_of f p after d e whole there fits here to left =
    ap (λ t. first_item (flat_map f (filter p t))) (sym to) ∙ sym (first_later f d (filter p (after d)) here) ∙ ap (λ t. first_item (flat_map f t)) (sym (filter_yes p d (after d) fits))
    ∙ ap (λ t. first_item (flat_map f (filter p t))) (sym (chain_step after d there)) ∙ left

pub skipped : {X : Type 0} (f : Dbref → List X) (p : Dbref → Bool) (after : Dbref → List Dbref) (d e : Dbref) (whole : Option X) → is_nothing d ≡ false → p d ≡ false → after d ≡ chain after e
    → first_item (flat_map f (filter p (chain after d))) ≡ whole → first_item (flat_map f (filter p (chain after e))) ≡ whole
skipped f p after d e whole there fails to left =
    ap (λ t. first_item (flat_map f (filter p t))) (sym to) ∙ ap (λ t. first_item (flat_map f t)) (sym (filter_no p d (after d) fails)) ∙ ap (λ t. first_item (flat_map f (filter p t))) (sym (chain_step after d there)) ∙ left

pub ended_of : {X : Type 0} (f : Dbref → List X) (p : Dbref → Bool) (after : Dbref → List Dbref) (d : Dbref) (whole : Option X) → is_nothing d ≡ true
    → first_item (flat_map f (filter p (chain after d))) ≡ whole → None ≡ whole
ended_of f p after d whole gone left = ap (λ t. first_item (flat_map f (filter p t))) (sym (chain_end after d gone)) ∙ left

pub first_append : {X : Type 0} (xs ys : List X) → first_item (xs ++ ys) ≡ option_or (first_item xs) (first_item ys)
first_append [] ys = refl
first_append (x ∷ xs) ys = refl
