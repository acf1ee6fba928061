-- Reading and writing the variables of a program at their place.
use Rattle.std.proofs.Common.{◌≡◌, ℕ, suc, ◌<◌, List, [], ◌∷◌, ◌++◌, length, map, refl, ap, sym, ◌∙◌, Bool, true, false, arith, rules}
use Rattle.std.specs.Prelude.{ℤ, Option, Some, None, slice_get, slice_set, if◌then◌else◌}
use Rattle.std.specs.Ordering.{int_eq}
use Rattle.std.specs.Option.{option_map}
use Rattle.std.proofs.lemmas.Option.{slice_get-map, slice_get_within}
use Rattle.std.proofs.lemmas.List.{map-set}
use Rattle.std.proofs.lemmas.Bool.Decides.{Decides-int_eq}
use Rattle.muf_model.specs.Datum.{Datum}
use Rattle.muf_model.specs.inner.View.{view}
use Rattle.muf_model.specs.Source.{Owned, variables_owned_by, with_owned}
use Rattle.muf_frame.specs.declared.frame.Owned.{Owned as Kept}
use Rattle.muf_frame.specs.inner.Shown.{flat_owned}
use Rattle.muf_frame.specs.inner.Owners.{owner_place, owned_values}

abbrev values_at : Option Owned → List Datum
values_at (Some o) = o.values
values_at None = []

read_cases : (n : ℤ) (o : Owned) (os : List Owned) (b : Bool) → variables_owned_by n os ≡ values_at (slice_get os (owner_place n os)) → (if b then o.values else variables_owned_by n os) ≡ values_at (slice_get (o ∷ os) (if b then 0 else suc (owner_place n os)))
read_cases n o os true h = refl
read_cases n o os false h = h

read_owner : (n : ℤ) (os : List Owned) → variables_owned_by n os ≡ values_at (slice_get os (owner_place n os))
read_owner n [] = refl
read_owner n (o ∷ os) = read_cases n o os (int_eq o.program n) (read_owner n os)

values_alike : (o : Option Kept) → values_at (option_map flat_owned o) ≡ owned_values o
values_alike (Some o) = refl
values_alike None = refl

pub owned_read : (n : ℤ) (os : List Kept) → variables_owned_by n (map flat_owned os) ≡ owned_values (slice_get os (owner_place n (map flat_owned os)))
owned_read n os =
    read_owner n (map flat_owned os) ∙ ap values_at (slice_get-map flat_owned os (owner_place n (map flat_owned os))) ∙ values_alike (slice_get os (owner_place n (map flat_owned os)))

write_cases : (n : ℤ) (vs : List Datum) (o : Owned) (os : List Owned) (b : Bool) → (owner_place n os < length os → with_owned n vs os ≡ slice_set os (owner_place n os) (record { program = n; values = vs })) → (if b then 0 else suc (owner_place n os)) < length (o ∷ os) → (if b then record { program = n; values = vs } ∷ os else o ∷ with_owned n vs os) ≡ slice_set (o ∷ os) (if b then 0 else suc (owner_place n os)) (record { program = n; values = vs })
write_cases n vs o os true h l = refl
write_cases n vs o os false h l = ap (λ r. o ∷ r) (h (omega (arith, l)))

pub write_owner : (n : ℤ) (vs : List Datum) (os : List Owned) → owner_place n os < length os → with_owned n vs os ≡ slice_set os (owner_place n os) (record { program = n; values = vs })
write_owner n vs [] l = absurd (omega (arith, l))
write_owner n vs (o ∷ os) l = write_cases n vs o os (int_eq o.program n) (write_owner n vs os) l

add_cases : (n : ℤ) (vs : List Datum) (o : Owned) (os : List Owned) (b : Bool) → (owner_place n os ≡ length os → with_owned n vs os ≡ os ++ (record { program = n; values = vs } ∷ [])) → (if b then 0 else suc (owner_place n os)) ≡ length (o ∷ os) → (if b then record { program = n; values = vs } ∷ os else o ∷ with_owned n vs os) ≡ (o ∷ os) ++ (record { program = n; values = vs } ∷ [])
add_cases n vs o os true h l = absurd (omega (arith, l))
add_cases n vs o os false h l = ap (λ r. o ∷ r) (h (omega (arith, l)))

pub add_owner : (n : ℤ) (vs : List Datum) (os : List Owned) → owner_place n os ≡ length os → with_owned n vs os ≡ os ++ (record { program = n; values = vs } ∷ [])
add_owner n vs [] l = refl
add_owner n vs (o ∷ os) l = add_cases n vs o os (int_eq o.program n) (add_owner n vs os) l

abbrev owner_or : ℤ → Option Owned → ℤ
owner_or n (Some o) = o.program
owner_or n None = n

found_cases : (n : ℤ) (p : Owned) (os : List Owned) (o : Owned) (b : Bool) → int_eq p.program n ≡ b → (slice_get os (owner_place n os) ≡ Some o → o.program ≡ n) → slice_get (p ∷ os) (if b then 0 else suc (owner_place n os)) ≡ Some o → o.program ≡ n
found_cases n p os o true e h s = ap (owner_or n) (sym s) ∙ (Decides-int_eq p.program n).0 e
found_cases n p os o false e h s = h s

found_owner : (n : ℤ) (os : List Owned) (o : Owned) → slice_get os (owner_place n os) ≡ Some o → o.program ≡ n
found_owner n [] o s = search (rules, s)
found_owner n (p ∷ os) o s = found_cases n p os o (int_eq p.program n) refl (found_owner n os o) s

-- the variables that a program has, by its place
pub owned_found : (n : ℤ) (os : List Kept) (i : ℕ) (o : Kept) → i ≡ owner_place n (map flat_owned os) → slice_get os i ≡ Some o → variables_owned_by n (map flat_owned os) ≡ map view o.values.items
owned_found n os i o e s =
    owned_read n os ∙ ap owned_values (ap (slice_get os) (sym e) ∙ s)

-- and with others there
pub owned_kept : (n : ℤ) (os : List Kept) (i : ℕ) (o new : Kept) → i ≡ owner_place n (map flat_owned os) → slice_get os i ≡ Some o → new.program ≡ o.program → map flat_owned (slice_set os i new) ≡ with_owned n (map view new.values.items) (map flat_owned os)
owned_kept n os i o new e s p =
    let f : slice_get (map flat_owned os) (owner_place n (map flat_owned os)) ≡ Some (flat_owned o) = ap (slice_get (map flat_owned os)) (sym e) ∙ slice_get-map flat_owned os i ∙ ap (option_map flat_owned) s in
    let k : new.program.0 ≡ n = ap (λ d. d.0) p ∙ found_owner n (map flat_owned os) (flat_owned o) f in
    let l : owner_place n (map flat_owned os) < length (map flat_owned os) = slice_get_within (map flat_owned os) (owner_place n (map flat_owned os)) (flat_owned o) f in
    map-set flat_owned os i new
    ∙ ap (λ j. slice_set (map flat_owned os) j (flat_owned new)) e
    ∙ ap (λ m. slice_set (map flat_owned os) (owner_place n (map flat_owned os)) (record { program = m; values = map view new.values.items })) k
    ∙ sym (write_owner n (map view new.values.items) (map flat_owned os) l)
