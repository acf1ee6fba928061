-- Lists that are seen through a function.
use Rattle.std.proofs.Common.{◌≡◌, ℕ, ℤ, ◌-◌, ◌<◌, ◌≤◌, zero, suc, true, List, [], ◌∷◌, ◌++◌, length, map, take, drop, get_or, None, refl, sym, ap, ◌∙◌, arith}
use Rattle.std.specs.Prelude.{is_none}
use Rattle.std.specs.List.{list_all}
use Rattle.std.proofs.lemmas.List.{get_or-map, take-map, drop-map, length-map}
use Rattle.muck_laws.proofs.Tests.{all_append, all_cons}
use Rattle.muck_model.specs.Bytes.{text_fault}
use Rattle.mpi.specs.Made.{is_text}
use Rattle.mpi.specs.Values.{nth, above_zero, part_between}
use Rattle.mpi.proofs.Items.{text_there}

-- each of a list whose texts all are
pub mapped_text : {A : Type 0} (f : A → List ℕ) (xs : List A) (i : ℕ) (d : A) → list_all is_text (map f xs) ≡ true → i < length xs → text_fault (f (get_or xs i d)) ≡ None
mapped_text f xs i d h less =
    ap text_fault (sym (get_or-map f xs i d (f d) less)) ∙ text_there (map f xs) i (f d) h (omega (arith, less, length-map xs f))

-- a text more in a list
pub text_more : (xs : List (List ℕ)) (x : List ℕ) → list_all is_text xs ≡ true → text_fault x ≡ None → list_all is_text (xs ++ x ∷ []) ≡ true
text_more xs x h k = all_append is_text xs (x ∷ []) h (all_cons is_text x [] (ap is_none k) refl)

pub nth_past : {A : Type 0} (f : A → List ℕ) (xs : List A) (i : ℕ) → length xs ≤ i → nth i (map f xs) ≡ []
nth_past f [] i le = refl
nth_past f (x ∷ xs) zero le = absurd (omega (arith, le))
nth_past f (x ∷ xs) (suc i) le = nth_past f xs i (omega (arith, le))

-- what stands from place p through place q
pub cut_mapped : {A B : Type 0} (f : A → B) (p q : ℤ) (xs : List A) → map f (part_between p q xs) ≡ part_between p q (map f xs)
cut_mapped f p q xs =
    sym (take-map f (above_zero q - (above_zero p - 1)) (drop (above_zero p - 1) xs)) ∙ ap (take (above_zero q - (above_zero p - 1))) (sym (drop-map f (above_zero p - 1) xs))
