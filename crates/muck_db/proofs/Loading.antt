-- The table of stored records: its chains are theirs, and its entries are the objects that they stand for.
use Rattle.std.proofs.Common.{◌≡◌, ℕ, ◌<◌, ◌≤◌, zero, suc, List, [], ◌∷◌, Option, Some, None, inl, inr, refl, sym, ◌∙◌, ap, subst, length, arith, Bool, true, false, ◌&&◌, ◌||◌}
use Rattle.std.specs.Prelude.{◌==◌, nat_le, nat_lt, if◌then◌else◌}
use Rattle.std.specs.List.{slice_get, list_all}
use Rattle.std.specs.Option.{option_map, option_and_then, option_map_or}
use Rattle.std.proofs.lemmas.Bool.{and_parts, ne_eqb}
use Rattle.std.proofs.lemmas.Bool.Decides.{nat_tests}
use Rattle.std.proofs.lemmas.List.Sums.{AllPass-from_list_all}
use Rattle.std.proofs.lemmas.Option.{slice_get-map}
use Rattle.muck_laws.proofs.Mapped.{length_map}
use Rattle.muck_model.specs.Bytes.{lines_most}
use Rattle.muck_codec.specs.declared.stored.Stored.{Stored}
use Rattle.muck_store.specs.Forms.{next_of_stored as record_next, entry_of_stored as record_entry, stored_object, loaded}
use Rattle.muck_store.specs.inner.Hung.{IsHung}
use Rattle.muck_store.specs.Limits.{is_hex_digit, is_digest, record_fits}
use Rattle.muck_store.specs.Whole.{first_at as record_first}
use Rattle.spec_live.specs.declared.object.Object.{Object}
use Rattle.spec_live.specs.declared.saving.Saving.TheVariants.{Due}
use Rattle.spec_live.specs.Chain.{walk, IsChain, Ends}
use Rattle.spec_live.specs.Saving.{saving_in}
use Rattle.spec_live.specs.Stood.{stood_in}
use Rattle.spec_live.specs.Consistent.{IsConsistent}
use Rattle.spec_live.specs.Objects.{Entry, index_of, is_garbage, garbage, object_in, entry_list, list_in, mark_in}
use Rattle.spec_live.proofs.Chains.{walk_none}
use Rattle.spec_live.proofs.Readers.{entries_ext}
use Rattle.muck_db.specs.declared.slot.Slot.{Slot}
use Rattle.muck_db.specs.inner.Limits.{IsDigest, FitsLimits, IsWithinLimits}
use Rattle.muck_db.specs.inner.Loading.{object_kept, slot_of, slots_of}
use Rattle.muck_db.specs.inner.Slots.{shown, object_at, next_at, first_of, first_at, mark_at, saving_at, stood_at, list_at, entries_of, HasPlayers, IsKept}
use Rattle.muck_db.proofs.Bridge.{walk_same}
use Rattle.muck_db.proofs.Linked.{chain_over}
use Rattle.muck_db.proofs.Readers.{length-entries_of, object_in-entries_of, list_in-entries_of, mark_in-entries_of, saving_in-entries_of, stood_in-entries_of}

-- The chains of the table.

length-slots_of : (os : List Stored) → length (slots_of os) ≡ length os
unfolding slots_of
length-slots_of os = length_map slot_of os

next_by : (q : Option Stored) → option_and_then (λ (s : Slot). s.next) (option_map slot_of q) ≡ option_and_then (λ (s : Stored). index_of s.next) q
unfolding slot_of
next_by None = refl
next_by (Some s) = refl

next-slots_of : (os : List Stored) (k : ℕ) → next_at (slots_of os) k ≡ record_next os k
unfolding next_at record_next slots_of
next-slots_of os k = ap (λ (o : Option Slot). option_and_then (λ (s : Slot). s.next) o) (slice_get-map slot_of os k) ∙ next_by (slice_get os k)

first_by : (v : Bool) (q : Option Stored) → option_and_then (first_of v) (option_map slot_of q) ≡ option_and_then (λ (s : Stored). index_of (if v then s.first_exit else s.first_content)) q
unfolding slot_of
first_by v None = refl
first_by true (Some s) = refl
first_by false (Some s) = refl

first-slots_of : (v : Bool) (os : List Stored) (k : ℕ) → first_at v (slots_of os) k ≡ record_first v os k
unfolding first_at slots_of
first-slots_of v os k = ap (λ (o : Option Slot). option_and_then (first_of v) o) (slice_get-map slot_of os k) ∙ first_by v (slice_get os k)

-- the list of a record
abbrev record_list : Bool → List Stored → ℕ → List ℕ
record_list v os k = walk (length os) (record_next os) (record_first v os k)

walk-slots_of : (v : Bool) (os : List Stored) (k : ℕ) → walk (length (slots_of os)) (next_at (slots_of os)) (first_at v (slots_of os) k) ≡ record_list v os k
walk-slots_of v os k =
    ap (λ (n : ℕ). walk n (next_at (slots_of os)) (first_at v (slots_of os) k)) (length-slots_of os)
    ∙ walk_same (length os) (record_next os) (next_at (slots_of os)) (first_at v (slots_of os) k) (next-slots_of os)
    ∙ ap (λ (at : Option ℕ). walk (length os) (record_next os) at) (first-slots_of v os k)

list-slots_of : (v : Bool) (os : List Stored) (k : ℕ) → list_at v (slots_of os) k ≡ record_list v os k
unfolding list_at
list-slots_of v os k = walk-slots_of v os k

ends-slots_of : (os : List Stored) → IsHung os → (v : Bool) (k : ℕ) → Ends (length (slots_of os)) (next_at (slots_of os)) (first_at v (slots_of os) k)
unfolding Ends
ends-slots_of os h v k =
    let chain : IsChain (length os) (record_next os) (record_first v os k) (record_list v os k) = h.ends v k in
    chain_over (length os) (length (slots_of os)) (record_next os) (next_at (slots_of os)) (record_first v os k) (first_at v (slots_of os) k) (record_list v os k)
    (walk (length (slots_of os)) (next_at (slots_of os)) (first_at v (slots_of os) k)) (length-slots_of os) (first-slots_of v os k) (walk-slots_of v os k) (λ x m. next-slots_of os x) chain

-- What is loaded.

length-loaded : (os : List Stored) → length (loaded os) ≡ length os
unfolding loaded
length-loaded os = length_map (record_entry os) os

object_by : (os : List Stored) (q : Option Stored) → option_map (λ (e : Entry). e.object) (option_map (record_entry os) q) ≡ option_map stored_object q
unfolding record_entry
object_by os None = refl
object_by os (Some s) = refl

object-loaded : (os : List Stored) (k : ℕ) → object_in (loaded os) k ≡ option_map stored_object (slice_get os k)
unfolding object_in loaded
object-loaded os k = ap (λ (o : Option Entry). option_map (λ (e : Entry). e.object) o) (slice_get-map (record_entry os) os k) ∙ object_by os (slice_get os k)

list_by : (v : Bool) (os : List Stored) (q : Option Stored) → option_map_or (entry_list v) (option_map (record_entry os) q) []
    ≡ walk (length os) (record_next os) (option_and_then (λ (s : Stored). index_of (if v then s.first_exit else s.first_content)) q)
unfolding record_entry
list_by v os None = sym (walk_none (length os) (record_next os))
list_by true os (Some s) = refl
list_by false os (Some s) = refl

list-loaded : (v : Bool) (os : List Stored) (k : ℕ) → list_in v (loaded os) k ≡ record_list v os k
unfolding list_in loaded
list-loaded v os k = ap (λ (o : Option Entry). option_map_or (entry_list v) o []) (slice_get-map (record_entry os) os k) ∙ list_by v os (slice_get os k)

marks_by : (os : List Stored) (q : Option Stored) → option_and_then (λ (s : Slot). s.mark) (option_map slot_of q) ≡ option_and_then (λ (e : Entry). e.mark) (option_map (record_entry os) q)
unfolding slot_of record_entry
marks_by os None = refl
marks_by os (Some s) = refl

mark-slots_of : (os : List Stored) (k : ℕ) → mark_at (slots_of os) k ≡ mark_in (loaded os) k
unfolding mark_at mark_in slots_of loaded
mark-slots_of os k =
    ap (λ (o : Option Slot). option_and_then (λ (s : Slot). s.mark) o) (slice_get-map slot_of os k) ∙ marks_by os (slice_get os k)
    ∙ ap (λ (o : Option Entry). option_and_then (λ (e : Entry). e.mark) o) (sym (slice_get-map (record_entry os) os k))

stood_by : (os : List Stored) (q : Option Stored) → option_and_then (λ (s : Slot). s.stood) (option_map slot_of q) ≡ option_and_then (λ (e : Entry). e.stood) (option_map (record_entry os) q)
unfolding slot_of record_entry
stood_by os None = refl
stood_by os (Some s) = refl

stood-slots_of : (os : List Stored) (k : ℕ) → stood_at (slots_of os) k ≡ stood_in (loaded os) k
unfolding stood_at stood_in slots_of loaded
stood-slots_of os k =
    ap (λ (o : Option Slot). option_and_then (λ (s : Slot). s.stood) o) (slice_get-map slot_of os k) ∙ stood_by os (slice_get os k)
    ∙ ap (λ (o : Option Entry). option_and_then (λ (e : Entry). e.stood) o) (sym (slice_get-map (record_entry os) os k))

savings_by : (os : List Stored) (q : Option Stored) → option_map_or (λ (s : Slot). s.saving) (option_map slot_of q) Due ≡ option_map_or (λ (e : Entry). e.saving) (option_map (record_entry os) q) Due
unfolding slot_of record_entry
savings_by os None = refl
savings_by os (Some s) = refl

saving-slots_of : (os : List Stored) (k : ℕ) → saving_at (slots_of os) k ≡ saving_in (loaded os) k
unfolding saving_at saving_in slots_of loaded
saving-slots_of os k =
    ap (λ (o : Option Slot). option_map_or (λ (s : Slot). s.saving) o Due) (slice_get-map slot_of os k) ∙ savings_by os (slice_get os k)
    ∙ ap (λ (o : Option Entry). option_map_or (λ (e : Entry). e.saving) o Due) (sym (slice_get-map (record_entry os) os k))

-- a blank record shows as garbage
kept_by : (s : Stored) (b : Bool) → (b ≡ true → stored_object s ≡ garbage) → option_map_or (λ (o : Object). o) (if b then None else Some (stored_object s)) garbage ≡ stored_object s
kept_by s true blank = sym (blank refl)
kept_by s false blank = refl

shown-slot_of : (s : Stored) → (is_garbage s.kind ≡ true → stored_object s ≡ garbage) → shown (slot_of s) ≡ stored_object s
unfolding slot_of object_kept
shown-slot_of s blank = kept_by s (is_garbage s.kind) blank

object-slots_of : (os : List Stored) → IsConsistent (loaded os) → (k : ℕ) → object_at (slots_of os) k ≡ object_in (loaded os) k
unfolding object_at slots_of
object-slots_of os world k = ap (λ (o : Option Slot). option_map shown o) (slice_get-map slot_of os k) ∙ by_record (slice_get os k) refl ∙ sym (object-loaded os k)
  where
    by_record : (q : Option Stored) → slice_get os k ≡ q → option_map shown (option_map slot_of q) ≡ option_map stored_object q
    by_record None at = refl
    by_record (Some s) at =
        let there : object_in (loaded os) k ≡ Some (stored_object s) = object-loaded os k ∙ ap (λ (o : Option Stored). option_map stored_object o) at in
        ap (λ (o : Object). Some o) (shown-slot_of s (world.blank k (stored_object s) there))

pub entries-slots_of : (os : List Stored) → IsConsistent (loaded os) → entries_of (slots_of os) ≡ loaded os
entries-slots_of os world =
    entries_ext (entries_of (slots_of os)) (loaded os) (length-entries_of (slots_of os) ∙ length-slots_of os ∙ sym (length-loaded os))
    (λ k. object_in-entries_of (slots_of os) k ∙ object-slots_of os world k)
    (λ v k. list_in-entries_of v (slots_of os) k ∙ list-slots_of v os k ∙ sym (list-loaded v os k))
    (λ k. mark_in-entries_of (slots_of os) k ∙ mark-slots_of os k)
    (λ k. saving_in-entries_of (slots_of os) k ∙ saving-slots_of os k)
    (λ k. stood_in-entries_of (slots_of os) k ∙ stood-slots_of os k)

-- The limits.

digest_within : (digest : List ℕ) → is_digest digest ≡ true → IsDigest digest
unfolding is_digest
digest_within [] h = inl refl
digest_within (b ∷ digest) h =
    let other : (length (b ∷ digest) == 0) ≡ false = ne_eqb (length (b ∷ digest)) 0 (λ q. omega (arith, q)) in
    let both : (length (b ∷ digest) == 80 && list_all is_hex_digit (b ∷ digest)) ≡ true = sym (ap (λ (x : Bool). x || (length (b ∷ digest) == 80 && list_all is_hex_digit (b ∷ digest))) other) ∙ h in
    let parts : ((length (b ∷ digest) == 80) ≡ true) × (list_all is_hex_digit (b ∷ digest) ≡ true) = and_parts (length (b ∷ digest) == 80) (list_all is_hex_digit (b ∷ digest)) both in
    let long : (length (b ∷ digest) == 80) ≡ true = parts.0 in
    let eighty : length (b ∷ digest) ≡ 80 = grind (arith, nat_tests) in
    inr (eighty, AllPass-from_list_all is_hex_digit (b ∷ digest) parts.1)

record AllSix (a b c d e f : Bool) : Type 0 where
  first : a ≡ true
  second : b ≡ true
  third : c ≡ true
  fourth : d ≡ true
  fifth : e ≡ true
  sixth : f ≡ true

all_six : (a b c d e f : Bool) → (a && (b && (c && (d && (e && f))))) ≡ true → AllSix a b c d e f
all_six true true true true true true h = record { first = refl; second = refl; third = refl; fourth = refl; fifth = refl; sixth = refl }
all_six true true true true true false h = absurd (cc h)
all_six true true true true false f h = absurd (cc h)
all_six true true true false e f h = absurd (cc h)
all_six true true false d e f h = absurd (cc h)
all_six true false c d e f h = absurd (cc h)
all_six false b c d e f h = absurd (cc h)

record_within : (s : Stored) → record_fits s ≡ true → FitsLimits (stored_object s)
unfolding record_fits
record_within s h =
    let t : AllSix (nat_le 1 (length s.name)) (nat_le (length s.name) 80) (nat_le s.level 3) (nat_lt s.flags.0 16384) (nat_le (length s.lines) lines_most) (is_digest s.digest) = all_six _ _ _ _ _ _ h in
    record {
      named = least 1 (length s.name) t.first;
      short = least (length s.name) 80 t.second;
      level = least s.level 3 t.third;
      flags = below s.flags.0 16384 t.fourth;
      lines = least (length s.lines) lines_most t.fifth;
      digest = digest_within s.digest t.sixth;
    }
  where
    least : (m n : ℕ) → nat_le m n ≡ true → m ≤ n
    least m n e = grind (arith, nat_tests)

    below : (m n : ℕ) → nat_lt m n ≡ true → m < n
    below m n e = grind (arith, nat_tests)

all_at : (os : List Stored) (k : ℕ) (s : Stored) → list_all record_fits os ≡ true → slice_get os k ≡ Some s → record_fits s ≡ true
all_at [] k s h at = absurd (cc at)
all_at (o ∷ os) zero s h at = let same : o ≡ s = cc at in subst (λ (x : Stored). record_fits x ≡ true) same (and_parts (record_fits o) (list_all record_fits os) h).0
all_at (o ∷ os) (suc k) s h at = all_at os k s (and_parts (record_fits o) (list_all record_fits os) h).1 at

limits-loaded : (os : List Stored) → list_all record_fits os ≡ true → IsWithinLimits (loaded os)
limits-loaded os h k o e = by_record (slice_get os k) refl (sym (object-loaded os k) ∙ e)
  where
    by_record : (q : Option Stored) → slice_get os k ≡ q → option_map stored_object q ≡ Some o → FitsLimits o
    by_record None at is = absurd (cc is)
    by_record (Some s) at is = let same : stored_object s ≡ o = cc is in subst FitsLimits same (record_within s (all_at os k s h at))

-- The rule of the type.

pub slots_few : (os : List Stored) (slots : List Slot) → slots ≡ slots_of os → length os ≤ 100000 → length slots ≤ 100000
slots_few os slots is few = omega (arith, few, length-slots_of os, ap (λ (z : List Slot). length z) is)

pub slots_kept : (os : List Stored) (slots : List Slot) (players : List ℕ) → slots ≡ slots_of os → HasPlayers slots players → IsHung os → list_all record_fits os ≡ true → IsKept slots 0 0 players
slots_kept os slots players is listed hung fine =
    let K : List Slot → Type 0 = λ z. IsKept z 0 0 players in
    let C : List Entry → Type 0 = λ z. IsConsistent z in
    let same : entries_of (slots_of os) ≡ loaded os = entries-slots_of os hung.world in
    subst K (sym is) (record {
      sound = record { ends = ends-slots_of os hung; world = subst C (sym same) hung.world; limits = subst IsWithinLimits (sym same) (limits-loaded os fine) };
      full = λ k lt. absurd (omega arith);
      unmarked = λ k lt. absurd (omega arith);
      listed = subst (λ (z : List Slot). HasPlayers z players) is listed;
    })
