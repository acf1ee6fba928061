-- What stands behind an object in its list.
use Rattle.std.proofs.Common.{◌≡◌, ℕ, true, false, cond, List, [], ◌∷◌, Some, None, refl, ◌==◌}
use Rattle.std.specs.Option.{option_map_or, option_and_then}
use Rattle.muck_model.specs.declared.dbref.Dbref.{Dbref}
use Rattle.spec_live.specs.Chain.{follower}
use Rattle.spec_live.specs.Objects.{Entry, dbref_of, nothing, is_exit, kind_in, place_in, list_in, number_in}
use Rattle.muck_db.specs.inner.Shown.{behind, listing, head_of, next_in}
use Rattle.spec_prims.specs.ObjectRows.{next_in_list, next_of}

head_behind : (d : ℕ) (xs : List ℕ) → head_of (behind d xs) ≡ option_map_or dbref_of (follower d xs) nothing
unfolding behind follower
head_behind d [] = refl
head_behind d (x ∷ []) = elim (x == d) as (λ b. head_of (cond b [] []) ≡ option_map_or dbref_of (cond b None None) nothing) [ true ↦ refl | false ↦ refl ]
head_behind d (x ∷ y ∷ ys) =
    elim (x == d) as (λ b. head_of (cond b (y ∷ ys) (behind d (y ∷ ys))) ≡ option_map_or dbref_of (cond b (Some y) (follower d (y ∷ ys))) nothing) [ true ↦ refl | false ↦ head_behind d (y ∷ ys) ]

next_here : (es : List Entry) (n : ℕ) → head_of (behind n (listing es n)) ≡ option_map_or dbref_of (next_in_list es n) nothing
unfolding listing next_in_list behind
next_here es n =
    elim (place_in es n) as (λ o. head_of (behind n (option_map_or (λ p. list_in (is_exit (kind_in es n)) es p) o [])) ≡ option_map_or dbref_of (option_and_then (λ p. follower n (list_in (is_exit (kind_in es n)) es p)) o) nothing)
    [ None ↦ refl | Some p ↦ head_behind n (list_in (is_exit (kind_in es n)) es p) ]

pub next_same : (es : List Entry) (d : Dbref) → next_in es d ≡ next_of es d
unfolding next_in next_of
next_same es d =
    elim (number_in es d) as (λ o. option_map_or (λ n. head_of (behind n (listing es n))) o nothing ≡ option_map_or dbref_of (option_and_then (next_in_list es) o) nothing)
    [ None ↦ refl | Some n ↦ next_here es n ]
