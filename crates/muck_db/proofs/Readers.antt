-- What the readers of a table and of its entries give.
use Rattle.std.proofs.Common.{◌≡◌, ℕ, List, [], Option, Some, None, refl, sym, ◌∙◌, ap, length, Bool, true, false}
use Rattle.std.proofs.lemmas.Option.{slice_get-map}
use Rattle.std.specs.List.{slice_get}
use Rattle.std.specs.Option.{option_map, option_and_then, option_map_or}
use Rattle.muck_laws.proofs.Mapped.{length_map}
use Rattle.muck_model.specs.declared.dbref.Kind.TheVariants.{Garbage}
use Rattle.spec_live.specs.declared.object.Object.{Object}
use Rattle.spec_live.specs.declared.saving.Saving.TheVariants.{Due}
use Rattle.spec_live.specs.Chain.{walk}
use Rattle.spec_live.specs.Flags.{no_flags}
use Rattle.spec_live.specs.Objects.{Entry, index_of, is_exit, object_in, entry_list, list_in, place_in, kind_in, flags_in, home_in, owner_in, mark_in}
use Rattle.spec_live.specs.Saving.{saving_in}
use Rattle.spec_live.specs.Stood.{stood_in}
use Rattle.spec_live.proofs.Chains.{walk_none}
use Rattle.muck_db.specs.declared.slot.Slot.{Slot}
use Rattle.muck_db.specs.inner.Slots.{shown, object_at, next_at, first_at, first_of, place_at, kind_at, flags_at, home_at, owner_at, mark_at, saving_at, stood_at, is_exit_at, list_at, entry_of, entries_of}

pub length-entries_of : (slots : List Slot) → length (entries_of slots) ≡ length slots
unfolding entries_of
length-entries_of slots = length_map (entry_of slots) slots

object_by : (slots : List Slot) (o : Option Slot) → option_map (λ (e : Entry). e.object) (option_map (entry_of slots) o) ≡ option_map shown o
unfolding entry_of
object_by slots None = refl
object_by slots (Some s) = refl

pub object_in-entries_of : (slots : List Slot) (k : ℕ) → object_in (entries_of slots) k ≡ object_at slots k
unfolding object_in object_at entries_of
object_in-entries_of slots k = ap (λ (o : Option Entry). option_map (λ (e : Entry). e.object) o) (slice_get-map (entry_of slots) slots k) ∙ object_by slots (slice_get slots k)

list_by : (v : Bool) (slots : List Slot) (o : Option Slot) → option_map_or (entry_list v) (option_map (entry_of slots) o) [] ≡ walk (length slots) (next_at slots) (option_and_then (first_of v) o)
unfolding entry_of
list_by v slots None = sym (walk_none (length slots) (next_at slots))
list_by true slots (Some s) = refl
list_by false slots (Some s) = refl

pub list_in-entries_of : (v : Bool) (slots : List Slot) (k : ℕ) → list_in v (entries_of slots) k ≡ list_at v slots k
unfolding list_in list_at first_at entries_of
list_in-entries_of v slots k = ap (λ (o : Option Entry). option_map_or (entry_list v) o []) (slice_get-map (entry_of slots) slots k) ∙ list_by v slots (slice_get slots k)

pub place_in-entries_of : (slots : List Slot) (k : ℕ) → place_in (entries_of slots) k ≡ place_at slots k
unfolding place_in place_at
place_in-entries_of slots k = ap (λ (o : Option Object). option_and_then (λ (x : Object). index_of x.place) o) (object_in-entries_of slots k)

kind_by : (o : Option Object) → is_exit (option_map_or (λ (x : Object). x.kind) o Garbage) ≡ option_map_or (λ (x : Object). is_exit x.kind) o false
kind_by None = refl
kind_by (Some o) = refl

pub is_exit-entries_of : (slots : List Slot) (k : ℕ) → is_exit (kind_in (entries_of slots) k) ≡ is_exit_at slots k
unfolding kind_in is_exit_at
is_exit-entries_of slots k = ap (λ (o : Option Object). is_exit (option_map_or (λ (x : Object). x.kind) o Garbage)) (object_in-entries_of slots k) ∙ kind_by (object_at slots k)

mark_by : (slots : List Slot) (o : Option Slot) → option_and_then (λ (e : Entry). e.mark) (option_map (entry_of slots) o) ≡ option_and_then (λ (s : Slot). s.mark) o
unfolding entry_of
mark_by slots None = refl
mark_by slots (Some s) = refl

pub mark_in-entries_of : (slots : List Slot) (k : ℕ) → mark_in (entries_of slots) k ≡ mark_at slots k
unfolding mark_in mark_at entries_of
mark_in-entries_of slots k = ap (λ (o : Option Entry). option_and_then (λ (e : Entry). e.mark) o) (slice_get-map (entry_of slots) slots k) ∙ mark_by slots (slice_get slots k)

stood_by : (slots : List Slot) (o : Option Slot) → option_and_then (λ (e : Entry). e.stood) (option_map (entry_of slots) o) ≡ option_and_then (λ (s : Slot). s.stood) o
unfolding entry_of
stood_by slots None = refl
stood_by slots (Some s) = refl

pub stood_in-entries_of : (slots : List Slot) (k : ℕ) → stood_in (entries_of slots) k ≡ stood_at slots k
unfolding stood_in stood_at entries_of
stood_in-entries_of slots k = ap (λ (o : Option Entry). option_and_then (λ (e : Entry). e.stood) o) (slice_get-map (entry_of slots) slots k) ∙ stood_by slots (slice_get slots k)

saving_by : (slots : List Slot) (o : Option Slot) → option_map_or (λ (e : Entry). e.saving) (option_map (entry_of slots) o) Due ≡ option_map_or (λ (s : Slot). s.saving) o Due
unfolding entry_of
saving_by slots None = refl
saving_by slots (Some s) = refl

pub saving_in-entries_of : (slots : List Slot) (k : ℕ) → saving_in (entries_of slots) k ≡ saving_at slots k
unfolding saving_in saving_at entries_of
saving_in-entries_of slots k = ap (λ (o : Option Entry). option_map_or (λ (e : Entry). e.saving) o Due) (slice_get-map (entry_of slots) slots k) ∙ saving_by slots (slice_get slots k)

pub kind_in-entries_of : (slots : List Slot) (k : ℕ) → kind_in (entries_of slots) k ≡ kind_at slots k
unfolding kind_in kind_at
kind_in-entries_of slots k = ap (λ (o : Option Object). option_map_or (λ (x : Object). x.kind) o Garbage) (object_in-entries_of slots k)

pub flags_in-entries_of : (slots : List Slot) (k : ℕ) → flags_in (entries_of slots) k ≡ flags_at slots k
unfolding flags_in flags_at
flags_in-entries_of slots k = ap (λ (o : Option Object). option_map_or (λ (x : Object). x.flags) o no_flags) (object_in-entries_of slots k)

pub home_in-entries_of : (slots : List Slot) (k : ℕ) → home_in (entries_of slots) k ≡ home_at slots k
unfolding home_in home_at
home_in-entries_of slots k = ap (λ (o : Option Object). option_and_then (λ (x : Object). index_of x.home) o) (object_in-entries_of slots k)

pub owner_in-entries_of : (slots : List Slot) (k : ℕ) → owner_in (entries_of slots) k ≡ owner_at slots k
unfolding owner_in owner_at
owner_in-entries_of slots k = ap (λ (o : Option Object). option_and_then (λ (x : Object). index_of x.owner) o) (object_in-entries_of slots k)
