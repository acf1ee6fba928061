-- Lists that are met, a number at a time.
use Rattle.std.proofs.Common.{◌≡◌, ℕ, ◌+◌, ◌-◌, ◌<◌, ◌≤◌, zero, suc, List, [], ◌∷◌, ◌++◌, Option, Some, None, refl, sym, ◌∙◌, ap, length, arith, Bool, true, false, cond, not, ◌&&◌, length-append, add-one, get_or, eqb}
use Rattle.std.proofs.lemmas.Option.{slice_get-get_or, slice_get_past}
use Rattle.std.specs.List.{slice_get, count_by}
use Rattle.std.specs.Option.{option_and_then, option_map_or}
use Rattle.muck_laws.proofs.Truths.{and_not}
use Rattle.spec_live.specs.Chain.{has}
use Rattle.spec_live.specs.Objects.{is_garbage}
use Rattle.muck_codec.specs.declared.stored.Stored.{Stored}
use Rattle.muck_store.specs.Forms.{next_of_stored}
use Rattle.muck_store.specs.Whole.{record_stands_in, chain_met, held_met, all_met, is_tree}

-- One list.

pub chain_more : (n : ℕ) (os : List Stored) (exits : Bool) (p d : ℕ) (at : Option ℕ) (met : List ℕ)
    → at ≡ Some d → record_stands_in os exits p d ≡ true → has d met ≡ false → chain_met (suc n) os exits p at met ≡ chain_met n os exits p (next_of_stored os d) (met ++ d ∷ [])
unfolding chain_met
chain_more n os exits p d at met e stands fresh =
    ap (λ (o : Option ℕ). chain_met (suc n) os exits p o met) e
    ∙ ap (λ (b : Bool). cond b (chain_met n os exits p (next_of_stored os d) (met ++ d ∷ [])) None) (and_not (record_stands_in os exits p d) (has d met) stands fresh)

pub chain_stops : (n : ℕ) (os : List Stored) (exits : Bool) (p d : ℕ) (at : Option ℕ) (met : List ℕ)
    → at ≡ Some d → (record_stands_in os exits p d && not (has d met)) ≡ false → chain_met (suc n) os exits p at met ≡ None
unfolding chain_met
chain_stops n os exits p d at met e stop =
    ap (λ (o : Option ℕ). chain_met (suc n) os exits p o met) e
    ∙ ap (λ (b : Bool). cond b (chain_met n os exits p (next_of_stored os d) (met ++ d ∷ [])) None) stop

pub chain_ends : (n : ℕ) (os : List Stored) (exits : Bool) (p : ℕ) (at : Option ℕ) (met : List ℕ) → at ≡ None → chain_met (suc n) os exits p at met ≡ Some met
unfolding chain_met
chain_ends n os exits p at met e = ap (λ (o : Option ℕ). chain_met (suc n) os exits p o met) e

-- what is to be met from there on, where `start` were met before the list
pub rest_met : List Stored → Bool → ℕ → ℕ → Option ℕ → List ℕ → Option (List ℕ)
rest_met os exits p start at met = chain_met (suc (start + (length os - length met))) os exits p at met

pub rest_first : (os : List Stored) (exits : Bool) (p : ℕ) (at : Option ℕ) (met : List ℕ) → length met ≤ length os
    → rest_met os exits p (length met) at met ≡ chain_met (suc (length os)) os exits p at met
unfolding rest_met
rest_first os exits p at met most =
    let e : length met + (length os - length met) ≡ length os = omega arith in
    ap (λ (n : ℕ). chain_met (suc n) os exits p at met) e

pub rest_more : (os : List Stored) (exits : Bool) (p d start : ℕ) (at next : Option ℕ) (met more : List ℕ)
    → at ≡ Some d → record_stands_in os exits p d ≡ true → has d met ≡ false → next ≡ next_of_stored os d → more ≡ met ++ d ∷ [] → length more ≤ length os
    → rest_met os exits p start at met ≡ rest_met os exits p start next more
unfolding rest_met
rest_more os exits p d start at next met more e stands fresh to put most =
    let size : length more ≡ length met + 1 = ap (λ (l : List ℕ). length l) put ∙ length-append met (d ∷ []) in
    let n : ℕ = start + (length os - length more) in
    let steps : start + (length os - length met) ≡ suc n = omega arith in
    ap (λ (k : ℕ). chain_met (suc k) os exits p at met) steps
    ∙ chain_more (suc n) os exits p d at met e stands fresh
    ∙ ap (λ (o : Option ℕ). chain_met (suc n) os exits p o (met ++ d ∷ [])) (sym to)
    ∙ ap (λ (l : List ℕ). chain_met (suc n) os exits p next l) (sym put)

pub rest_stops : (os : List Stored) (exits : Bool) (p d start : ℕ) (at : Option ℕ) (met : List ℕ)
    → at ≡ Some d → (record_stands_in os exits p d && not (has d met)) ≡ false → rest_met os exits p start at met ≡ None
unfolding rest_met
rest_stops os exits p d start at met e stop = chain_stops (start + (length os - length met)) os exits p d at met e stop

pub rest_ends : (os : List Stored) (exits : Bool) (p start : ℕ) (at : Option ℕ) (met : List ℕ) → at ≡ None → rest_met os exits p start at met ≡ Some met
unfolding rest_met
rest_ends os exits p start at met e = chain_ends (start + (length os - length met)) os exits p at met e

-- The two lists of one object.

-- All lists.

pub all_next : (n : ℕ) (os : List Stored) (i p : ℕ) (met : List ℕ) → slice_get met i ≡ Some p
    → all_met (suc n) os i met ≡ option_and_then (all_met n os (suc i)) (held_met os p met)
unfolding all_met
all_next n os i p met e = ap (λ (o : Option ℕ). option_map_or (λ (q : ℕ). option_and_then (all_met n os (suc i)) (held_met os q met)) o (Some met)) e

module _ (os : List Stored) (i p : ℕ) (met : List ℕ) (inside : i < length met) (most : length met ≤ length os) (is : p ≡ get_or met i 0) where
  next_held : all_met (length os - i) os i met ≡ option_and_then (all_met (length os - (i + 1)) os (i + 1)) (held_met os p met)
  next_held =
      let steps : length os - i ≡ suc (length os - (i + 1)) = omega arith in
      ap (λ (n : ℕ). all_met n os i met) steps
      ∙ all_next (length os - (i + 1)) os i p met (slice_get-get_or met i 0 inside ∙ ap (λ (q : ℕ). Some q) (sym is))
      ∙ ap (λ (j : ℕ). option_and_then (all_met (length os - (i + 1)) os j) (held_met os p met)) (sym (add-one i))

  pub all_more : (more : List ℕ) → held_met os p met ≡ Some more → all_met (length os - i) os i met ≡ all_met (length os - (i + 1)) os (i + 1) more
  all_more more e = next_held ∙ ap (option_and_then (all_met (length os - (i + 1)) os (i + 1))) e

  pub all_stops : held_met os p met ≡ None → all_met (length os - i) os i met ≡ None
  all_stops e = next_held ∙ ap (option_and_then (all_met (length os - (i + 1)) os (i + 1))) e

pub all_end : (n : ℕ) (os : List Stored) (i : ℕ) (met : List ℕ) → length met ≤ i → all_met n os i met ≡ Some met
unfolding all_met
all_end zero os i met h = refl
all_end (suc n) os i met h = ap (λ (o : Option ℕ). option_map_or (λ (q : ℕ). option_and_then (all_met n os (suc i)) (held_met os q met)) o (Some met)) (slice_get_past met i h)

-- The whole.

pub tree_stops : (os : List Stored) (first : List ℕ) → first ≡ 0 ∷ [] → all_met (length os) os 0 first ≡ None → false ≡ is_tree os
unfolding is_tree
tree_stops os first e stops =
    sym (ap (λ (o : Option (List ℕ)). option_map_or (λ met. eqb (length met) (count_by (λ s. not (is_garbage s.kind)) os)) o false) (ap (all_met (length os) os 0) (sym e) ∙ stops))

pub tree_met : (os : List Stored) (first met : List ℕ) (seen there : ℕ) → first ≡ 0 ∷ [] → all_met (length os) os 0 first ≡ Some met
    → seen ≡ length met → there ≡ count_by (λ s. not (is_garbage s.kind)) os → eqb seen there ≡ is_tree os
unfolding is_tree
tree_met os first met seen there e all p q =
    ap (λ (n : ℕ). eqb n there) p ∙ ap (λ (n : ℕ). eqb (length met) n) q
    ∙ sym (ap (λ (o : Option (List ℕ)). option_map_or (λ l. eqb (length l) (count_by (λ s. not (is_garbage s.kind)) os)) o false) (ap (all_met (length os) os 0) (sym e) ∙ all))
