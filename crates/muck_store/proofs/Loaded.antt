-- What the readers of the objects give for those that records stand for.
use Rattle.std.proofs.Common.{◌≡◌, ℕ, List, [], Option, Some, None, refl, sym, ◌∙◌, ap, length, Bool, true, false, cond}
use Rattle.std.proofs.lemmas.Option.{slice_get-map, same_Some, none-some}
use Rattle.std.specs.List.{slice_get}
use Rattle.std.specs.Option.{option_map, option_and_then, option_map_or}
use Rattle.muck_laws.proofs.Mapped.{length_map}
use Rattle.muck_model.specs.declared.dbref.Kind.TheVariants.{Garbage}
use Rattle.muck_codec.specs.declared.stored.Stored.{Stored}
use Rattle.spec_live.specs.declared.object.Object.{Object}
use Rattle.spec_live.specs.Flags.{has_flag, no_flags, vehicle}
use Rattle.spec_live.specs.Chain.{walk}
use Rattle.spec_live.specs.Objects.{Entry, index_of, object_in, entry_list, list_in, kind_in, flags_in, place_in, is_vehicle_in}
use Rattle.spec_live.proofs.Chains.{walk_none}
use Rattle.muck_store.specs.Forms.{next_of_stored, stored_object, entry_of_stored, loaded}
use Rattle.muck_store.specs.Whole.{stored_kind, seats_in, first_at}
use Rattle.muck_store.proofs.Meeting.{place_at}

pub length_loaded : (os : List Stored) → length (loaded os) ≡ length os
unfolding loaded
length_loaded os = length_map (entry_of_stored os) os

pub get_loaded : (os : List Stored) (k : ℕ) → slice_get (loaded os) k ≡ option_map (entry_of_stored os) (slice_get os k)
unfolding loaded
get_loaded os k = slice_get-map (entry_of_stored os) os k

object_loaded : (os : List Stored) (k : ℕ) → object_in (loaded os) k ≡ option_map (λ s. stored_object s) (slice_get os k)
unfolding object_in entry_of_stored
object_loaded os k = ap (λ o. option_map (λ (e : Entry). e.object) o) (get_loaded os k) ∙ by_cases (slice_get os k)
  where
    by_cases : (o : Option Stored) → option_map (λ (e : Entry). e.object) (option_map (entry_of_stored os) o) ≡ option_map (λ s. stored_object s) o
    by_cases None = refl
    by_cases (Some s) = refl

-- the record of an object
pub record IsOf (os : List Stored) (k : ℕ) (o : Object) : Type 0 where
  pub stored : Stored
  pub is : slice_get os k ≡ Some stored
  pub object : o ≡ stored_object stored

pub object_from : (os : List Stored) (k : ℕ) (o : Object) → object_in (loaded os) k ≡ Some o → IsOf os k o
object_from os k o h = by_cases (slice_get os k) refl (sym (object_loaded os k) ∙ h)
  where
    by_cases : (x : Option Stored) → slice_get os k ≡ x → option_map (λ s. stored_object s) x ≡ Some o → IsOf os k o
    by_cases None e q = absurd (none-some o q)
    by_cases (Some s) e q = record { stored = s; is = e; object = sym (same_Some (stored_object s) o q) }

pub kind_loaded : (os : List Stored) (k : ℕ) → kind_in (loaded os) k ≡ stored_kind os k
unfolding kind_in stored_kind
kind_loaded os k = ap (λ (o : Option Object). option_map_or (λ (x : Object). x.kind) o Garbage) (object_loaded os k) ∙ by_cases (slice_get os k)
  where
    by_cases : (o : Option Stored) → option_map_or (λ (x : Object). x.kind) (option_map (λ s. stored_object s) o) Garbage ≡ option_map_or (λ (s : Stored). s.kind) o Garbage
    by_cases None = refl
    by_cases (Some s) = refl

pub place_loaded : (os : List Stored) (k : ℕ) → place_in (loaded os) k ≡ place_at os k
unfolding place_in place_at
place_loaded os k = ap (λ (o : Option Object). option_and_then (λ (x : Object). index_of x.place) o) (object_loaded os k) ∙ by_cases (slice_get os k)
  where
    by_cases : (o : Option Stored) → option_and_then (λ (x : Object). index_of x.place) (option_map (λ s. stored_object s) o) ≡ option_and_then (λ (s : Stored). index_of s.place) o
    by_cases None = refl
    by_cases (Some s) = refl

pub seats_loaded : (os : List Stored) (k : ℕ) → is_vehicle_in (loaded os) k ≡ seats_in os k
unfolding is_vehicle_in flags_in seats_in
seats_loaded os k = ap (λ (o : Option Object). has_flag vehicle (option_map_or (λ (x : Object). x.flags) o no_flags)) (object_loaded os k) ∙ by_cases (slice_get os k)
  where
    by_cases : (o : Option Stored) → has_flag vehicle (option_map_or (λ (x : Object). x.flags) (option_map (λ s. stored_object s) o) no_flags) ≡ option_map_or (λ (s : Stored). has_flag vehicle s.flags) o false
    by_cases None = refl
    by_cases (Some s) = refl

pub list_loaded : (os : List Stored) (v : Bool) (k : ℕ) → list_in v (loaded os) k ≡ walk (length os) (next_of_stored os) (first_at v os k)
unfolding list_in entry_of_stored
list_loaded os v k = ap (λ (o : Option Entry). option_map_or (λ e. entry_list v e) o []) (get_loaded os k) ∙ by_cases v (slice_get os k)
  where
    by_cases : (w : Bool) (o : Option Stored) → option_map_or (λ e. entry_list w e) (option_map (entry_of_stored os) o) [] ≡ walk (length os) (next_of_stored os) (option_and_then (λ (s : Stored). index_of (cond w s.first_exit s.first_content)) o)
    by_cases w None = sym (walk_none (length os) (next_of_stored os))
    by_cases true (Some s) = refl
    by_cases false (Some s) = refl
