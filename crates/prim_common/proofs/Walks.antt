-- The items of a frame, from the top down.
use Rattle.std.proofs.Common.{◌≡◌, ℕ, zero, suc, ◌+◌, ◌-◌, ◌<◌, List, [], ◌∷◌, ◌++◌, length, drop, map, get_or, Option, Some, None, Ok, Err, refl, sym, ap, ◌∙◌, subst, arith, add-one, drop-cons}
use native.Mathlib.Numerals.{unary_clauses}
use Rattle.std.specs.Prelude.{slice_get, Result}
use Rattle.std.specs.Option.{option_or}
use Rattle.std.proofs.lemmas.List.{length-append, drop-drop}
use Rattle.muck_laws.proofs.Places.{item_at, none_at}
use Rattle.muf_model.specs.declared.fault.MufFault.{MufFault}
use Rattle.muf_model.specs.declared.needs.Need.{Need}
use Rattle.muf_model.specs.declared.value.Value.{Value}
use Rattle.muf_model.specs.Datum.{Datum}
use Rattle.muf_model.specs.Ladder.{times, first_refusal}
use Rattle.muf_model.specs.inner.View.{view}
use Rattle.prim_common.specs.inner.Tests.{Passes}
use Rattle.prim_common.proofs.Faults.{fails, passes, or_assoc}

walk_none : (test : Need → Datum → Option MufFault) (ns : List Need) → first_refusal test ns [] ≡ None
walk_none test [] = refl
walk_none test (n ∷ ns) = refl

-- the walk of items from a depth stands at a need and at an item
module _ (test : Need → Datum → Option MufFault) (ns : List Need) (xs : List Value) (at depth : ℕ) (whole : Option MufFault) where
  walk_at : (d : Need) (x : Value) → at < length ns → slice_get xs depth ≡ Some x → first_refusal test (drop at ns) (drop depth (map view xs)) ≡ option_or (test (get_or ns at d) (view x)) (first_refusal test (drop (at + 1) ns) (drop (depth + 1) (map view xs)))
  walk_at d x l e =
      let needs : drop at ns ≡ get_or ns at d ∷ drop (at + 1) ns = rw (add-one, drop-cons ns at d l) refl in
      let items : drop depth (map view xs) ≡ view x ∷ drop (depth + 1) (map view xs) = rw (add-one, item_at view xs depth x e) refl in
      ap (λ ms. first_refusal test ms (drop depth (map view xs))) needs ∙ ap (λ ys. first_refusal test (get_or ns at d ∷ drop (at + 1) ns) ys) items

  -- there are no more items
  pub passed_all : whole ≡ first_refusal test (drop at ns) (drop depth (map view xs)) → slice_get xs depth ≡ None → Passes {X = Unit {0}} whole (Ok tt)
  passed_all h e =
      let none : whole ≡ None = h ∙ ap (first_refusal test (drop at ns)) (none_at view xs depth e) ∙ walk_none test (drop at ns) in
      subst (λ o. Passes {X = Unit {0}} o (Ok tt)) (sym none) tt

  -- the item at the place fails
  pub failed_at : (d : Need) (x : Value) (f : MufFault) (r : Result (Unit {0}) MufFault) → whole ≡ first_refusal test (drop at ns) (drop depth (map view xs)) → at < length ns → slice_get xs depth ≡ Some x → Passes (test (get_or ns at d) (view x)) r → r ≡ Err f → Passes {X = Unit {0}} whole (Err f)
  failed_at d x f r h l e fault is =
      subst (λ o. Passes {X = Unit {0}} o (Err f)) (sym (h ∙ walk_at d x l e)) (fails (Unit {0}) (Unit {0}) (test (get_or ns at d) (view x)) _ f (subst (λ r. Passes (test (get_or ns at d) (view x)) r) is fault))

  -- it passes
  pub passed_at : (d : Need) (x : Value) (u : Unit {0}) (r : Result (Unit {0}) MufFault) → whole ≡ first_refusal test (drop at ns) (drop depth (map view xs)) → at < length ns → slice_get xs depth ≡ Some x → Passes (test (get_or ns at d) (view x)) r → r ≡ Ok u → whole ≡ first_refusal test (drop (at + 1) ns) (drop (depth + 1) (map view xs))
  passed_at d x u r h l e pass is =
      h ∙ walk_at d x l e ∙ passes (test (get_or ns at d) (view x)) _ (subst (λ r. Passes (test (get_or ns at d) (view x)) r) is pass)

-- ---- needs one behind the other

module _ (test : Need → Datum → Option MufFault) where
  walk_append : (ns ms : List Need) (xs : List Datum) → first_refusal test (ns ++ ms) xs ≡ option_or (first_refusal test ns xs) (first_refusal test ms (drop (length ns) xs))
  walk_append [] ms xs = refl
  walk_append (n ∷ ns) ms [] = sym (walk_none test ms)
  walk_append (n ∷ ns) ms (x ∷ xs) = ap (option_or (test n x)) (walk_append ns ms xs) ∙ or_assoc (test n x) (first_refusal test ns xs) (first_refusal test ms (drop (length ns) xs))

  walk_behind : (ns ms : List Need) (depth : ℕ) (xs : List Datum) → first_refusal test (ns ++ ms) (drop depth xs) ≡ option_or (first_refusal test ns (drop depth xs)) (first_refusal test ms (drop (depth + length ns) xs))
  walk_behind ns ms depth xs = walk_append ns ms (drop depth xs) ∙ ap (λ ys. option_or (first_refusal test ns (drop depth xs)) (first_refusal test ms ys)) (drop-drop (length ns) depth xs)

  pub walk_parts : (fixed counted under : List Need) (xs : List Datum) → first_refusal test (fixed ++ (counted ++ under)) xs ≡ option_or (first_refusal test fixed xs) (option_or (first_refusal test counted (drop (length fixed) xs)) (first_refusal test under (drop (length fixed + length counted) xs)))
  walk_parts fixed counted under xs = walk_append fixed (counted ++ under) xs ∙ ap (option_or (first_refusal test fixed xs)) (walk_behind counted under (length fixed) xs)

  -- a round of those that are counted
  round : (each : List Need) (left depth : ℕ) (xs : List Datum) → 0 < left → first_refusal test (times left each) (drop depth xs) ≡ option_or (first_refusal test each (drop depth xs)) (first_refusal test (times (left - 1) each) (drop (depth + length each) xs))
  round each zero depth xs h = absurd (omega (arith, h))
  round each (suc n) depth xs h = simp unary_clauses (walk_behind each (times n each) depth xs)

  module _ (each : List Need) (left depth : ℕ) (xs : List Datum) (whole : Option MufFault) where
    pub failed_round : (f : MufFault) (r : Result (Unit {0}) MufFault) → whole ≡ first_refusal test (times left each) (drop depth xs) → 0 < left → Passes (first_refusal test each (drop depth xs)) r → r ≡ Err f → Passes {X = Unit {0}} whole (Err f)
    failed_round f r h l fault is =
        subst (λ o. Passes {X = Unit {0}} o (Err f)) (sym (h ∙ round each left depth xs l)) (fails (Unit {0}) (Unit {0}) (first_refusal test each (drop depth xs)) _ f (subst (λ r. Passes (first_refusal test each (drop depth xs)) r) is fault))

    pub passed_round : (u : Unit {0}) (r : Result (Unit {0}) MufFault) → whole ≡ first_refusal test (times left each) (drop depth xs) → 0 < left → Passes (first_refusal test each (drop depth xs)) r → r ≡ Ok u → whole ≡ first_refusal test (times (left - 1) each) (drop (depth + length each) xs)
    passed_round u r h l pass is =
        h ∙ round each left depth xs l ∙ passes (first_refusal test each (drop depth xs)) _ (subst (λ r. Passes (first_refusal test each (drop depth xs)) r) is pass)

pub times_left : (n : ℕ) (each : List Need) → 0 < n → length (times n each) ≡ length each + length (times (n - 1) each)
times_left zero each h = absurd (omega (arith, h))
times_left (suc n) each h = simp unary_clauses (length-append each (times n each))

pub ruleset part_steps = (walk_parts)
