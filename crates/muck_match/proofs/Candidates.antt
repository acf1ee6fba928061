-- One candidate, none or several, and numbers that are gone over.
use Rattle.std.proofs.Common.{◌≡◌, ℕ, ◌<◌, ◌+◌, ◌-◌, suc, pos, Bool, false, List, [], ◌∷◌, ◌++◌, Option, refl, sym, ◌∙◌, ap, map, arith}
use Rattle.std.specs.List.{filter, find, range_with_len}
use Rattle.muck_laws.proofs.Tests.{filter_append}
use Rattle.muck_model.specs.declared.dbref.Dbref.{Dbref}
use Rattle.muck_model.specs.Numbers.{dbref_numbered}
use Rattle.muck_match.specs.Scenery.{Scenery, place_in_scenery, numbers}
use Rattle.muck_match.specs.Naming.{candidate_chosen, joined, answers_to, objects_near, near, is_player_named, player_named}
use Rattle.muck_match.specs.declared.naming.Fit.{Fit}

pub chosen_append : (ds es : List Dbref) → candidate_chosen (ds ++ es) ≡ joined (candidate_chosen ds) (candidate_chosen es)
chosen_append [] es = refl
chosen_append (d ∷ []) [] = refl
chosen_append (d ∷ []) (e ∷ []) = refl
chosen_append (d ∷ []) (e ∷ f ∷ es) = refl
chosen_append (d ∷ c ∷ ds) es = refl

pub near_of_both : (w : Scenery) (fit : Fit) (text : List ℕ) (player place : Dbref) → place ≡ place_in_scenery w player
    → joined (candidate_chosen (filter (answers_to fit text w) (w.contents player))) (candidate_chosen (filter (answers_to fit text w) (w.contents place))) ≡ near w fit text player
unfolding near objects_near
near_of_both w fit text player place e =
    let p = answers_to fit text w in
    ap (λ t. joined (candidate_chosen (filter p (w.contents player))) (candidate_chosen (filter p (w.contents t)))) e
    ∙ sym (chosen_append (filter p (w.contents player)) (filter p (w.contents (place_in_scenery w player)))) ∙ ap candidate_chosen (sym (filter_append p (w.contents player) (w.contents (place_in_scenery w player))))

-- the numbers from n on, below c
abbrev pub numbers_from : ℕ → ℕ → List Dbref
numbers_from n c = map (λ k. dbref_numbered (pos k)) (range_with_len n (c - n))

pub numbers_step : (n c : ℕ) → n < c → numbers_from n c ≡ dbref_numbered (pos n) ∷ numbers_from (n + 1) c
numbers_step n c lt =
    let e : c - n ≡ suc (c - (n + 1)) = omega arith in
    ap (λ m. map (λ k. dbref_numbered (pos k)) (range_with_len n m)) e

pub find_later : (p : Dbref → Bool) (n c : ℕ) (d : Dbref) (whole : Option Dbref) → n < c → d ≡ dbref_numbered (pos n) → p d ≡ false → find p (numbers_from n c) ≡ whole → find p (numbers_from (n + 1) c) ≡ whole
find_later p n c d whole lt e fails left =
    let here : p (dbref_numbered (pos n)) ≡ false = ap p (sym e) ∙ fails in
    let later : find p (dbref_numbered (pos n) ∷ numbers_from (n + 1) c) ≡ find p (numbers_from (n + 1) c) = rw here refl in
    sym later ∙ ap (find p) (sym (numbers_step n c lt)) ∙ left

pub find_all : (w : Scenery) (name : List ℕ) (c : ℕ) → c ≡ w.count → find (is_player_named name w) (numbers_from 0 c) ≡ player_named w name
unfolding player_named numbers
find_all w name c e =
    let z : c - 0 ≡ w.count = omega (arith, e) in
    ap (λ m. find (is_player_named name w) (map (λ k. dbref_numbered (pos k)) (range_with_len 0 m))) z
