-- The steps of recycling, from the table to its entries.
use Rattle.std.proofs.Common.{◌≡◌, ℕ, ◌<◌, List, [], ◌∷◌, Option, Some, None, Result, Ok, inl, inr, refl, sym, ◌∙◌, ap, subst, length, arith, Bool, true, false, cond, map}
use Rattle.muck_laws.proofs.Mapped.{length_map}
use Rattle.muck_laws.proofs.Options.{kept_then}
use Rattle.muck_laws.proofs.Places.{some_at}
use Rattle.muck_laws.proofs.Truths.{whether}
use Rattle.muck_model.proofs.Dbrefs.{eq_same}
use Rattle.std.proofs.lemmas.Bool.{cases_eq, ne_eqb, eq-eqb, false≢true, and_parts}
use Rattle.std.proofs.lemmas.Option.{slice_get-map}
use Rattle.std.specs.List.{slice_get}
use Rattle.std.specs.Option.{option_map, option_and_then, option_map_or}
use Rattle.muck_model.specs.declared.dbref.Dbref.{Dbref}
use Rattle.muck_model.specs.declared.dbref.Kind.{Kind}
use Rattle.muck_model.specs.declared.dbref.Kind.TheVariants.{Garbage}
use Rattle.spec_live.specs.declared.fault.DbFault.{DbFault}
use Rattle.spec_live.specs.declared.object.Object.{Object}
use Rattle.spec_live.specs.declared.mark.Mark.TheVariants.{Gone}
use Rattle.spec_live.specs.declared.saving.Saving.{Saving}
use Rattle.spec_live.specs.declared.saving.Saving.TheVariants.{Due}
use Rattle.spec_live.specs.Chain.{walk, IsChain, Ends, Member, follower, without_number}
use Rattle.spec_live.specs.Objects.{Entry, dbref_of, index_of, same, is_exit, is_player, may_stand, changed_at, garbage, entry_list, object_in, list_in, mark_in, kind_in, place_in, fits_in, is_vehicle_in}
use Rattle.spec_live.specs.Saving.{first_of_list, next_in, links_in, saving_in}
use Rattle.spec_live.specs.Moving.{left_out, moved, Does}
use Rattle.spec_live.specs.Recycling.{untie, untied, way_home, sent_home, gone_entry, is_exit_of, exit_gone, without_exits, exits_gone, vanished, taken_away, recycled, recycle_check}
use Rattle.spec_live.specs.Consistent.{StandsIn, IsOrdered, IsConsistent, MayMove}
use Rattle.spec_live.proofs.Chains.{ends_from, walk_none, walk_next, without_gone, without_member}
use Rattle.spec_live.proofs.Lists.{length_changed, get_changed_same, get_changed_other, read_kept}
use Rattle.spec_live.proofs.Readers.{entries_ext, kind_alike, place_alike}
use Rattle.spec_live.proofs.KindLaws.{place_alive, only_exit, none_in_exit}
use Rattle.spec_live.proofs.Checks.{alive_known}
use Rattle.spec_live.proofs.HomeLaws.{IsUntied, is_untied, ordered_untied, list_untied, length_untied, length_sent_home, kind_untied, kind_sent_home, HomeStep, home_step}
use Rattle.spec_live.proofs.RecyclingLaws.{is_exit_at, exit_stands, stands_exit, length_taken, object_taken, list_taken, mark_taken, kind_taken, consistent_recycled}
use Rattle.spec_live.proofs.Dues.{saving_exits, saving_vanished}
use Rattle.spec_live.proofs.Tracing.{stood_taken}
use Rattle.muck_db.specs.declared.slot.Slot.{Slot}
use Rattle.muck_db.specs.inner.Slots.{shown, object_at, kind_at, next_at, first_of, first_at, mark_at, place_at, list_at, saving_at, stood_at, untied_slot, wiped, exit_wiped, entry_of, entries_of, LeadsTo, Stands, HasOrder, HasPlayers, IsSound, IsKept, IsUnlinked}
use Rattle.muck_db.specs.inner.Limits.{IsWithinLimits}
use Rattle.muck_db.specs.inner.Exits.{exit_at}
use Rattle.muck_db.proofs.LimitLaws.{limits_recycled}
use Rattle.muck_db.proofs.Readers.{length-entries_of, object_in-entries_of, kind_in-entries_of, list_in-entries_of, mark_in-entries_of, saving_in-entries_of, stood_in-entries_of}
use Rattle.muck_db.proofs.Leads.{relinked_due, IsWithout, next_without, saving_without}
use Rattle.muck_db.proofs.Linked.{chain_over}
use Rattle.muck_db.proofs.Bridge.{list_is, ends_none, order_chains}
use Rattle.muck_db.proofs.Writes.{entries_mapped, ends_mapped}

pub fits_within : (slots : List Slot) (x to : ℕ) → fits_in (entries_of slots) x to ≡ true → to < length slots
unfolding fits_in
fits_within slots x to h =
    let known : to < length (entries_of slots) = alive_known (entries_of slots) to (place_alive (kind_in (entries_of slots) x) (kind_in (entries_of slots) to) (is_vehicle_in (entries_of slots) to) h) in
    omega (arith, known, length-entries_of slots)

-- Nothing is tied to d any more.

untied_entry : (d : ℕ) (slots : List Slot) (s : Slot) → entry_of slots (untied_slot d s) ≡ untie d (entry_of slots s)
unfolding entry_of untied_slot garbage
untied_entry d slots s = by_cases s.object refl
  where
    by_cases : (o : Option Object) → s.object ≡ o → entry_of slots (untied_slot d s) ≡ untie d (entry_of slots s)
    by_cases None e = rw e refl
    by_cases (Some o) e = rw e refl

pub record Untied (d : ℕ) (old new : List Slot) : Type 0 where
  pub order : HasOrder new
  pub same_length : length new ≡ length old
  pub free : IsUntied d (entries_of new)
  pub sent : sent_home (list_in false (entries_of new) d) (entries_of new) ≡ sent_home (list_in false (entries_of old) d) (untied d (entries_of old))

untied_next : (d : ℕ) (s : Slot) → (untied_slot d s).next ≡ s.next
unfolding untied_slot
untied_next d s = refl

untied_first : (d : ℕ) (v : Bool) (s : Slot) → first_of v (untied_slot d s) ≡ first_of v s
unfolding untied_slot
untied_first d true s = refl
untied_first d false s = refl

entries_untied : (d : ℕ) (old new : List Slot) → new ≡ map (untied_slot d) old → entries_of new ≡ untied d (entries_of old)
unfolding untied
entries_untied d old new is = ap (λ (z : List Slot). entries_of z) is ∙ entries_mapped (untied_slot d) (untie d) old (untied_next d) (untied_entry d old)

pub untied_table : (d : ℕ) (old new : List Slot) → HasOrder old → (d ≡ 0 → ⊥) → new ≡ map (untied_slot d) old → Untied d old new
untied_table d old new order low is =
    let es : List Entry = entries_of old in
    let entries : entries_of new ≡ untied d es = entries_untied d old new is in
    let O : List Entry → Type 0 = λ z. IsOrdered z in
    let U : List Entry → Type 0 = λ z. IsUntied d z in
    let S : List Entry → Type 0 = λ z. sent_home (list_in false z d) z ≡ sent_home (list_in false es d) (untied d es) in
    record {
      order = record { ends = ends_mapped (untied_slot d) old new is (untied_next d) (untied_first d) order.ends; ordered = subst O (sym entries) (ordered_untied es d order.ordered) };
      same_length = ap (λ (z : List Slot). length z) is ∙ length_map (untied_slot d) old;
      free = subst U (sym entries) (is_untied es d low);
      sent = subst S (sym entries) (ap (λ l. sent_home l (untied d es)) (list_untied false d d es));
    }

-- Going home.

pub first_some : (slots : List Slot) (d x : ℕ) → HasOrder slots → first_at false slots d ≡ Some x → list_in false (entries_of slots) d ≡ x ∷ walk (length slots) (next_at slots) (next_at slots x)
unfolding list_at
first_some slots d x s e = list_in-entries_of false slots d ∙ walk_next (length slots) (next_at slots) (first_at false slots d) (next_at slots x) x e refl (s.ends false d)

pub first_none : (slots : List Slot) (d : ℕ) → first_at false slots d ≡ None → list_in false (entries_of slots) d ≡ []
unfolding list_at
first_none slots d e = list_in-entries_of false slots d ∙ ap (λ (o : Option ℕ). walk (length slots) (next_at slots) o) e ∙ walk_none (length slots) (next_at slots)

pub sent_none : (es : List Entry) (d : ℕ) → list_in false es d ≡ [] → sent_home (list_in false es d) es ≡ es
unfolding sent_home
sent_none es d e = rw e refl

-- one turn
pub record Turn (es : List Entry) (d x t : ℕ) : Type 0 where
  pub may : MayMove es x t
  pub shorter : length (list_in false (moved x t es) d) < length (list_in false es d)
  pub free : IsUntied d (moved x t es)
  pub sent : sent_home (list_in false (moved x t es) d) (moved x t es) ≡ sent_home (list_in false es d) es

pub turn : (slots : List Slot) (d x t : ℕ) → HasOrder slots → IsUntied d (entries_of slots) → (d ≡ 0 → ⊥) → first_at false slots d ≡ Some x → t ≡ way_home x (entries_of slots) → Turn (entries_of slots) d x t
turn slots d x t s free low first home =
    let es : List Entry = entries_of slots in
    let xs : List ℕ = walk (length slots) (next_at slots) (next_at slots x) in
    let list : list_in false es d ≡ x ∷ xs = first_some slots d x s first in
    let h : HomeStep es d x xs = home_step es d x xs s.ordered free low list in
    let T : ℕ → Type 0 = λ z. Turn es d x z in
    subst T (sym home) (record {
      may = h.may;
      shorter = omega (arith, ap (λ (l : List ℕ). length l) h.rest, ap (λ (l : List ℕ). length l) list);
      free = h.untied;
      sent = ap (λ l. sent_home l (moved x (way_home x es) es)) h.rest ∙ sym h.sent ∙ ap (λ l. sent_home l es) (sym list);
    })

-- Becoming garbage.

-- what an object becomes where exits of d do
unfoldable left_object : ℕ → Object → Object
left_object d o = cond (is_exit_of d o) garbage o

pub length_wiped : (d : ℕ) (old new : List Slot) → new ≡ map (exit_wiped d) old → length new ≡ length old
length_wiped d old new is = ap (λ (z : List Slot). length z) is ∙ length_map (exit_wiped d) old

get_wiped : (d : ℕ) (mid left new : List Slot) → d < length mid → left ≡ map (exit_wiped d) mid → new ≡ changed_at d wiped left → (s : Slot) × (slice_get new d ≡ Some (wiped s))
get_wiped d mid left new lt l n =
    let s : (x : Slot) × (slice_get left d ≡ Some x) = some_at left d (omega (arith, lt, length_wiped d mid left l)) in
    (s.0, ap (λ (z : List Slot). slice_get z d) n ∙ get_changed_same left d wiped ∙ ap (λ (o : Option Slot). option_map wiped o) s.1)

get_other : (d k : ℕ) (mid left new : List Slot) → (k ≡ d → ⊥) → left ≡ map (exit_wiped d) mid → new ≡ changed_at d wiped left → slice_get new k ≡ option_map (exit_wiped d) (slice_get mid k)
get_other d k mid left new ne l n = ap (λ (z : List Slot). slice_get z k) n ∙ get_changed_other left d k wiped ne ∙ ap (λ (z : List Slot). slice_get z k) l ∙ slice_get-map (exit_wiped d) mid k

-- a slot, of an exit of d or not
wiped_is : (d : ℕ) (s : Slot) → is_exit_of d (shown s) ≡ true → exit_wiped d s ≡ wiped s
unfolding exit_wiped
wiped_is d s h = rw h refl

pub unwiped_is : (d : ℕ) (s : Slot) → is_exit_of d (shown s) ≡ false → exit_wiped d s ≡ s
unfolding exit_wiped
unwiped_is d s h = rw h refl

wiped_object : (d : ℕ) (s : Slot) (b : Bool) → is_exit_of d (shown s) ≡ b → shown (exit_wiped d s) ≡ left_object d (shown s)
unfolding left_object
wiped_object d s true h = ap (λ (z : Slot). shown z) (wiped_is d s h) ∙ sym (ap (λ b. cond b garbage (shown s)) h)
wiped_object d s false h = ap (λ (z : Slot). shown z) (unwiped_is d s h) ∙ sym (ap (λ b. cond b garbage (shown s)) h)

wiped_mark : (d : ℕ) (s : Slot) (b : Bool) → is_exit_of d (shown s) ≡ b → (exit_wiped d s).mark ≡ cond b (Some Gone) s.mark
wiped_mark d s true h = ap (λ (z : Slot). z.mark) (wiped_is d s h)
wiped_mark d s false h = ap (λ (z : Slot). z.mark) (unwiped_is d s h)

wiped_first : (v : Bool) (d : ℕ) (s : Slot) (b : Bool) → is_exit_of d (shown s) ≡ b → first_of v (exit_wiped d s) ≡ cond b None (first_of v s)
wiped_first true d s true h = ap (λ (z : Slot). first_of true z) (wiped_is d s h)
wiped_first false d s true h = ap (λ (z : Slot). first_of false z) (wiped_is d s h)
wiped_first v d s false h = ap (λ (z : Slot). first_of v z) (unwiped_is d s h)

-- the readers of what is left, but at d
object_kept_at : (d k : ℕ) (mid left new : List Slot) → (k ≡ d → ⊥) → left ≡ map (exit_wiped d) mid → new ≡ changed_at d wiped left → object_at new k ≡ option_map (left_object d) (object_at mid k)
unfolding object_at
object_kept_at d k mid left new ne l n = ap (λ (o : Option Slot). option_map shown o) (get_other d k mid left new ne l n) ∙ by_cases (slice_get mid k)
  where
    by_cases : (o : Option Slot) → option_map shown (option_map (exit_wiped d) o) ≡ option_map (left_object d) (option_map shown o)
    by_cases None = refl
    by_cases (Some s) = ap (λ (z : Object). Some z) (wiped_object d s (is_exit_of d (shown s)) refl)

mark_kept_at : (d k : ℕ) (mid left new : List Slot) → (k ≡ d → ⊥) → left ≡ map (exit_wiped d) mid → new ≡ changed_at d wiped left → mark_at new k ≡ cond (exit_at d mid k) (Some Gone) (mark_at mid k)
unfolding mark_at exit_at object_at
mark_kept_at d k mid left new ne l n = ap (λ (o : Option Slot). option_and_then (λ (s : Slot). s.mark) o) (get_other d k mid left new ne l n) ∙ by_cases (slice_get mid k)
  where
    by_cases : (o : Option Slot) → option_and_then (λ (s : Slot). s.mark) (option_map (exit_wiped d) o) ≡ cond (option_map_or (is_exit_of d) (option_map shown o) false) (Some Gone) (option_and_then (λ (s : Slot). s.mark) o)
    by_cases None = refl
    by_cases (Some s) = wiped_mark d s (is_exit_of d (shown s)) refl

first_kept_at : (v : Bool) (d k : ℕ) (mid left new : List Slot) → (k ≡ d → ⊥) → left ≡ map (exit_wiped d) mid → new ≡ changed_at d wiped left → first_at v new k ≡ cond (exit_at d mid k) None (first_at v mid k)
unfolding first_at exit_at object_at
first_kept_at v d k mid left new ne l n = ap (λ (o : Option Slot). option_and_then (first_of v) o) (get_other d k mid left new ne l n) ∙ by_cases (slice_get mid k)
  where
    by_cases : (o : Option Slot) → option_and_then (first_of v) (option_map (exit_wiped d) o) ≡ cond (option_map_or (is_exit_of d) (option_map shown o) false) None (option_and_then (first_of v) o)
    by_cases None = refl
    by_cases (Some s) = wiped_first v d s (is_exit_of d (shown s)) refl

next_kept_at : (d k : ℕ) (mid left new : List Slot) → (k ≡ d → ⊥) → exit_at d mid k ≡ false → left ≡ map (exit_wiped d) mid → new ≡ changed_at d wiped left → next_at new k ≡ next_at mid k
unfolding next_at exit_at object_at
next_kept_at d k mid left new ne stays l n = ap (λ (o : Option Slot). option_and_then (λ (s : Slot). s.next) o) (get_other d k mid left new ne l n) ∙ by_cases (slice_get mid k) stays
  where
    by_cases : (o : Option Slot) → option_map_or (is_exit_of d) (option_map shown o) false ≡ false → option_and_then (λ (s : Slot). s.next) (option_map (exit_wiped d) o) ≡ option_and_then (λ (s : Slot). s.next) o
    by_cases None h = refl
    by_cases (Some s) h = ap (λ (z : Slot). z.next) (unwiped_is d s h)

-- an exit of d stands in d
exit_place : (d k : ℕ) (slots : List Slot) → exit_at d slots k ≡ true → place_at slots k ≡ Some d
unfolding exit_at place_at
exit_place d k slots h = by_cases (object_at slots k) refl h
  where
    by_cases : (o : Option Object) → object_at slots k ≡ o → option_map_or (is_exit_of d) o false ≡ true → option_and_then (λ (x : Object). index_of x.place) (object_at slots k) ≡ Some d
    by_cases None e q = absurd (false≢true q)
    by_cases (Some o) e q =
        let both : (is_exit o.kind ≡ true) × (same o.place (dbref_of d) ≡ true) = and_parts (is_exit o.kind) (same o.place (dbref_of d)) q in
        rw e (ap (λ z. index_of z) (eq_same o.place (dbref_of d) both.1))

pub exit_same : (d k : ℕ) (old mid : List Slot) → IsUnlinked d old mid → exit_at d mid k ≡ exit_at d old k
unfolding exit_at
exit_same d k old mid u = ap (λ (o : Option Object). option_map_or (is_exit_of d) o false) (u.same_objects k)

-- a list that isn't of d holds no exit of d
others_stay : (v : Bool) (d p y : ℕ) (old mid : List Slot) → HasOrder old → IsUnlinked d old mid → (p ≡ d → ⊥) → Member y (without_number d (list_at v old p)) → exit_at d mid y ≡ false
others_stay v d p y old mid s u ne m = whether (exit_at d mid y) (exit_at d mid y ≡ false)
    (λ h. let t : Stands old v p y = (order_chains old s).stands v p y (without_member d y (list_at v old p) m) in
    let place : place_at old y ≡ Some d = exit_place d y old (sym (exit_same d y old mid u) ∙ h) in
    absurd (ne (cc (t.place, place))))
    (λ h. h)

unfoldable left_list : ℕ → List Slot → Bool → ℕ → List ℕ
left_list d old v p = cond (exit_at d old p) [] (without_number d (list_at v old p))

chain_empty : (n : ℕ) (f : ℕ → Option ℕ) (s : Option ℕ) → s ≡ None → IsChain n f s []
unfolding IsChain
chain_empty n f s e = e

chain_left : (v : Bool) (d p : ℕ) (old mid left new : List Slot) → HasOrder old → IsUnlinked d old mid → left ≡ map (exit_wiped d) mid → new ≡ changed_at d wiped left → (p ≡ d → ⊥)
    → IsChain (length new) (next_at new) (first_at v new p) (left_list d old v p)
unfolding left_list
chain_left v d p old mid left new s u l n ne =
    let first : first_at v new p ≡ cond (exit_at d mid p) None (first_at v mid p) = first_kept_at v d p mid left new ne l n in
    let same_length : length new ≡ length mid = ap (λ (z : List Slot). length z) n ∙ length_changed left d wiped ∙ length_wiped d mid left l in
    whether (exit_at d old p) (IsChain (length new) (next_at new) (first_at v new p) (cond (exit_at d old p) [] (without_number d (list_at v old p))))
    (λ h. rw h (chain_empty (length new) (next_at new) (first_at v new p) (first ∙ ap (λ b. cond b None (first_at v mid p)) (exit_same d p old mid u ∙ h))))
    (λ h. rw h (chain_over (length mid) (length new) (next_at mid) (next_at new) (first_at v mid p) (first_at v new p) (without_number d (list_at v old p)) (without_number d (list_at v old p)) same_length
    (first ∙ ap (λ b. cond b None (first_at v mid p)) (exit_same d p old mid u ∙ h)) refl
    (λ y m. next_kept_at d y mid left new (λ e. without_gone d (list_at v old p) (let M : ℕ → Type 0 = λ z. Member z (without_number d (list_at v old p)) in subst M e m)) (others_stay v d p y old mid s u ne m) l n)
    (u.chains v p)))

first_here : (v : Bool) (d : ℕ) (mid left new : List Slot) → d < length mid → left ≡ map (exit_wiped d) mid → new ≡ changed_at d wiped left → first_at v new d ≡ None
unfolding first_at
first_here true d mid left new lt l n = ap (λ (o : Option Slot). option_and_then (first_of true) o) (get_wiped d mid left new lt l n).1
first_here false d mid left new lt l n = ap (λ (o : Option Slot). option_and_then (first_of false) o) (get_wiped d mid left new lt l n).1

pub ends_vanished : (d : ℕ) (old mid left new : List Slot) → HasOrder old → d < length old → IsUnlinked d old mid → left ≡ map (exit_wiped d) mid → new ≡ changed_at d wiped left
    → (v : Bool) (p : ℕ) → Ends (length new) (next_at new) (first_at v new p)
ends_vanished d old mid left new s lt u l n v p = elim (cases_eq p d) [
  | inl e ↦
      let P : ℕ → Type 0 = λ z. Ends (length new) (next_at new) (first_at v new z) in
      let Q : Option ℕ → Type 0 = λ o. Ends (length new) (next_at new) o in
      subst P (sym e) (subst Q (sym (first_here v d mid left new (omega (arith, lt, u.same_length)) l n)) (ends_none (length new) (next_at new)))
  | inr ne ↦ ends_from (length new) (next_at new) (first_at v new p) (left_list d old v p) (chain_left v d p old mid left new s u l n ne)
]

-- The same of the entries.

get_gone : (d : ℕ) (es : List Entry) → d < length es → (e : Entry) × (slice_get (vanished d (exits_gone d es)) d ≡ Some (gone_entry e))
unfolding vanished exits_gone
get_gone d es lt =
    let xs : List Entry = changed_at d without_exits (map (exit_gone d) es) in
    let s : (x : Entry) × (slice_get (map (left_out d) xs) d ≡ Some x) = some_at (map (left_out d) xs) d (omega (arith, lt, length_map (left_out d) xs, length_changed (map (exit_gone d) es) d without_exits, length_map (exit_gone d) es)) in
    (s.0, get_changed_same (map (left_out d) xs) d gone_entry ∙ ap (λ (o : Option Entry). option_map gone_entry o) s.1)

get_left : (d k : ℕ) (es : List Entry) → (k ≡ d → ⊥) → slice_get (vanished d (exits_gone d es)) k ≡ option_map (left_out d) (option_map (exit_gone d) (slice_get es k))
unfolding vanished exits_gone
get_left d k es ne =
    let xs : List Entry = changed_at d without_exits (map (exit_gone d) es) in
    get_changed_other (map (left_out d) xs) d k gone_entry ne ∙ slice_get-map (left_out d) xs k
    ∙ ap (λ (o : Option Entry). option_map (left_out d) o) (get_changed_other (map (exit_gone d) es) d k without_exits ne ∙ slice_get-map (exit_gone d) es k)

gone_is : (d : ℕ) (e : Entry) → is_exit_of d e.object ≡ true → exit_gone d e ≡ gone_entry e
gone_is d e h = ap (λ b. cond b (gone_entry e) e) h

stays_is : (d : ℕ) (e : Entry) → is_exit_of d e.object ≡ false → exit_gone d e ≡ e
stays_is d e h = ap (λ b. cond b (gone_entry e) e) h

gone_object : (d : ℕ) (e : Entry) (b : Bool) → is_exit_of d e.object ≡ b → (exit_gone d e).object ≡ left_object d e.object
unfolding left_object gone_entry
gone_object d e true h = ap (λ (z : Entry). z.object) (gone_is d e h) ∙ sym (ap (λ b. cond b garbage e.object) h)
gone_object d e false h = ap (λ (z : Entry). z.object) (stays_is d e h) ∙ sym (ap (λ b. cond b garbage e.object) h)

gone_mark : (d : ℕ) (e : Entry) (b : Bool) → is_exit_of d e.object ≡ b → (exit_gone d e).mark ≡ cond b (Some Gone) e.mark
unfolding gone_entry
gone_mark d e true h = ap (λ (z : Entry). z.mark) (gone_is d e h)
gone_mark d e false h = ap (λ (z : Entry). z.mark) (stays_is d e h)

gone_list : (v : Bool) (d : ℕ) (e : Entry) (b : Bool) → is_exit_of d e.object ≡ b → entry_list v (left_out d (exit_gone d e)) ≡ cond b [] (without_number d (entry_list v e))
unfolding gone_entry without_number
gone_list true d e true h = ap (λ (z : Entry). entry_list true (left_out d z)) (gone_is d e h)
gone_list false d e true h = ap (λ (z : Entry). entry_list false (left_out d z)) (gone_is d e h)
gone_list true d e false h = ap (λ (z : Entry). entry_list true (left_out d z)) (stays_is d e h)
gone_list false d e false h = ap (λ (z : Entry). entry_list false (left_out d z)) (stays_is d e h)

unfoldable pub exit_in : ℕ → List Entry → ℕ → Bool
exit_in d es k = option_map_or (is_exit_of d) (object_in es k) false

object_left_in : (d k : ℕ) (es : List Entry) → (k ≡ d → ⊥) → object_in (vanished d (exits_gone d es)) k ≡ option_map (left_object d) (object_in es k)
unfolding object_in
object_left_in d k es ne = ap (λ (o : Option Entry). option_map (λ (e : Entry). e.object) o) (get_left d k es ne) ∙ by_cases (slice_get es k)
  where
    by_cases : (o : Option Entry) → option_map (λ (e : Entry). e.object) (option_map (left_out d) (option_map (exit_gone d) o)) ≡ option_map (left_object d) (option_map (λ (e : Entry). e.object) o)
    by_cases None = refl
    by_cases (Some e) = ap (λ (z : Object). Some z) (gone_object d e (is_exit_of d e.object) refl)

mark_left_in : (d k : ℕ) (es : List Entry) → (k ≡ d → ⊥) → mark_in (vanished d (exits_gone d es)) k ≡ cond (exit_in d es k) (Some Gone) (mark_in es k)
unfolding mark_in exit_in object_in
mark_left_in d k es ne = ap (λ (o : Option Entry). option_and_then (λ (e : Entry). e.mark) o) (get_left d k es ne) ∙ by_cases (slice_get es k)
  where
    by_cases : (o : Option Entry) → option_and_then (λ (e : Entry). e.mark) (option_map (left_out d) (option_map (exit_gone d) o)) ≡ cond (option_map_or (is_exit_of d) (option_map (λ (e : Entry). e.object) o) false) (Some Gone) (option_and_then (λ (e : Entry). e.mark) o)
    by_cases None = refl
    by_cases (Some e) = gone_mark d e (is_exit_of d e.object) refl

without_none : (d : ℕ) → without_number d [] ≡ []
unfolding without_number
without_none d = refl

list_left_in : (v : Bool) (d k : ℕ) (es : List Entry) → (k ≡ d → ⊥) → list_in v (vanished d (exits_gone d es)) k ≡ cond (exit_in d es k) [] (without_number d (list_in v es k))
unfolding list_in exit_in object_in
list_left_in v d k es ne = ap (λ (o : Option Entry). option_map_or (entry_list v) o []) (get_left d k es ne) ∙ by_cases (slice_get es k)
  where
    by_cases : (o : Option Entry) → option_map_or (entry_list v) (option_map (left_out d) (option_map (exit_gone d) o)) [] ≡ cond (option_map_or (is_exit_of d) (option_map (λ (e : Entry). e.object) o) false) [] (without_number d (option_map_or (entry_list v) o []))
    by_cases None = sym (without_none d)
    by_cases (Some e) = gone_list v d e (is_exit_of d e.object) refl

-- one and the same
pub exit_bridge : (d k : ℕ) (slots : List Slot) → exit_in d (entries_of slots) k ≡ exit_at d slots k
unfolding exit_in exit_at
exit_bridge d k slots = ap (λ (o : Option Object). option_map_or (is_exit_of d) o false) (object_in-entries_of slots k)

gone_here : (d : ℕ) (es : List Entry) → d < length es → (object_in (vanished d (exits_gone d es)) d ≡ Some garbage) × (mark_in (vanished d (exits_gone d es)) d ≡ Some Gone) × ((v : Bool) → list_in v (vanished d (exits_gone d es)) d ≡ [])
unfolding object_in mark_in list_in gone_entry
gone_here d es lt = (ap (λ (o : Option Entry). option_map (λ (e : Entry). e.object) o) (get_gone d es lt).1, ap (λ (o : Option Entry). option_and_then (λ (e : Entry). e.mark) o) (get_gone d es lt).1, λ v. ap (λ (o : Option Entry). option_map_or (entry_list v) o []) (get_gone d es lt).1 ∙ none v)
  where
    none : (v : Bool) → entry_list v (gone_entry (get_gone d es lt).0) ≡ []
    none true = refl
    none false = refl

wiped_here : (d : ℕ) (mid left new : List Slot) → d < length mid → left ≡ map (exit_wiped d) mid → new ≡ changed_at d wiped left → (object_at new d ≡ Some garbage) × (mark_at new d ≡ Some Gone)
unfolding object_at mark_at
wiped_here d mid left new lt l n = (ap (λ (o : Option Slot). option_map shown o) (get_wiped d mid left new lt l n).1, ap (λ (o : Option Slot). option_and_then (λ (s : Slot). s.mark) o) (get_wiped d mid left new lt l n).1)

-- The marks of what is left.

wiped_saving : (d : ℕ) (s : Slot) (b : Bool) → is_exit_of d (shown s) ≡ b → (exit_wiped d s).saving ≡ cond b Due s.saving
wiped_saving d s true h = ap (λ (z : Slot). z.saving) (wiped_is d s h)
wiped_saving d s false h = ap (λ (z : Slot). z.saving) (unwiped_is d s h)

saving_kept_at : (d k : ℕ) (mid left new : List Slot) → (k ≡ d → ⊥) → left ≡ map (exit_wiped d) mid → new ≡ changed_at d wiped left → saving_at new k ≡ cond (exit_at d mid k) Due (saving_at mid k)
unfolding saving_at exit_at object_at
saving_kept_at d k mid left new ne l n = ap (λ (o : Option Slot). option_map_or (λ (s : Slot). s.saving) o Due) (get_other d k mid left new ne l n) ∙ by_cases (slice_get mid k)
  where
    by_cases : (o : Option Slot) → option_map_or (λ (s : Slot). s.saving) (option_map (exit_wiped d) o) Due ≡ cond (option_map_or (is_exit_of d) (option_map shown o) false) Due (option_map_or (λ (s : Slot). s.saving) o Due)
    by_cases None = refl
    by_cases (Some s) = wiped_saving d s (is_exit_of d (shown s)) refl

saving_left : (d k : ℕ) (es : List Entry) → (k ≡ d → ⊥) → saving_in (vanished d (exits_gone d es)) k ≡ cond (exit_in d es k) Due (saving_in es k)
unfolding exit_in is_exit_at
saving_left d k es ne = saving_vanished (exits_gone d es) d k ∙ rw (ne_eqb k d ne) (saving_exits d k es)

pub exit_stands_in : (d k : ℕ) (es : List Entry) → exit_in d es k ≡ true → StandsIn es true d k
unfolding exit_in is_exit_at
exit_stands_in d k es h = exit_stands d es k h

stands_exit_in : (d k : ℕ) (es : List Entry) → StandsIn es true d k → exit_in d es k ≡ true
unfolding exit_in is_exit_at
stands_exit_in d k es h = stands_exit d es k h

-- nothing stands in an exit
pub place_stays : (d k p : ℕ) (es : List Entry) → IsOrdered es → place_in es k ≡ Some p → exit_in d es p ≡ false
unfolding fits_in
place_stays d k p es c place = whether (exit_in d es p) (exit_in d es p ≡ false)
    (λ h. let P : Kind → Type 0 = λ z. may_stand (kind_in es k) z (is_vehicle_in es p) ≡ true in
    absurd (none_in_exit (kind_in es k) (is_vehicle_in es p) (subst P (only_exit (kind_in es p) (exit_stands_in d p es h).kind) (c.kinds k p place))))
    (λ h. h)

no_member : (x : ℕ) (xs : List ℕ) → xs ≡ [] → Member x xs → ⊥
unfolding Member
no_member x xs e m = let P : List ℕ → Type 0 = λ l. Member x l in subst P e m

-- what stands in d, in which nothing is but exits, is one of them
place_other : (d k p : ℕ) (es : List Entry) → IsOrdered es → list_in false es d ≡ [] → exit_in d es k ≡ false → place_in es k ≡ Some p → p ≡ d → ⊥
place_other d k p es c empty stays place e =
    let here : place_in es k ≡ Some d = place ∙ ap (λ z. Some z) e in
    whether (is_exit (kind_in es k)) ⊥
    (λ h. false≢true (sym stays ∙ stands_exit_in d k es (record { place = here; kind = h })))
    (λ h. no_member k (list_in false es d) empty (c.listed false d k (record { place = here; kind = h })))

left_object_same : (d : ℕ) (o : Option Object) → option_map_or (is_exit_of d) o false ≡ false → option_map (left_object d) o ≡ o
unfolding left_object
left_object_same d None h = refl
left_object_same d (Some o) h = ap (λ b. Some (cond b garbage o)) h

object_stays_in : (d k : ℕ) (es : List Entry) → (k ≡ d → ⊥) → exit_in d es k ≡ false → object_in (vanished d (exits_gone d es)) k ≡ object_in es k
unfolding exit_in
object_stays_in d k es ne stays = object_left_in d k es ne ∙ left_object_same d (object_in es k) stays

list_stays_in : (v : Bool) (d k : ℕ) (es : List Entry) → (k ≡ d → ⊥) → exit_in d es k ≡ false → list_in v (vanished d (exits_gone d es)) k ≡ without_number d (list_in v es k)
list_stays_in v d k es ne stays = list_left_in v d k es ne ∙ ap (λ b. cond b [] (without_number d (list_in v es k))) stays

next_left : (d k : ℕ) (es : List Entry) → IsOrdered es → list_in false es d ≡ [] → (k ≡ d → ⊥) → exit_in d es k ≡ false → next_in (vanished d (exits_gone d es)) k ≡ next_without d es k
unfolding next_in next_without
next_left d k es c empty ne stays =
    let fs : List Entry = vanished d (exits_gone d es) in
    let same : object_in fs k ≡ object_in es k = object_stays_in d k es ne stays in
    rw (place_alike es fs k same, kind_alike es fs k same) (by_cases (place_in es k) refl)
  where
    by_cases : (o : Option ℕ) → place_in es k ≡ o
        → option_and_then (λ p. follower k (list_in (is_exit (kind_in es k)) (vanished d (exits_gone d es)) p)) o ≡ option_and_then (λ p. follower k (without_number d (list_in (is_exit (kind_in es k)) es p))) o
    by_cases None e = refl
    by_cases (Some p) e = ap (λ l. follower k l) (list_stays_in (is_exit (kind_in es k)) d p es (place_other d k p es c empty stays e) (place_stays d k p es c e))

left_without : (d k : ℕ) (es : List Entry) → IsOrdered es → list_in false es d ≡ [] → (k ≡ d → ⊥) → exit_in d es k ≡ false → IsWithout d es (vanished d (exits_gone d es)) k
left_without d k es c empty ne stays = record {
  other = ne;
  fronts = λ v. ap first_of_list (list_stays_in v d k es ne stays);
  next = next_left d k es c empty ne stays;
}

taken_here : (d : ℕ) (es : List Entry) → saving_in (taken_away d es) d ≡ Due
unfolding taken_away
taken_here d es = relinked_due es (vanished d (exits_gone d es)) d (saving_vanished (exits_gone d es) d d ∙ rw (eq-eqb d d refl) refl)

taken_exit : (d k : ℕ) (es : List Entry) → (k ≡ d → ⊥) → exit_in d es k ≡ true → saving_in (taken_away d es) k ≡ Due
unfolding taken_away
taken_exit d k es ne h = relinked_due es (vanished d (exits_gone d es)) k (saving_left d k es ne ∙ rw h refl)

taken_else : (d k : ℕ) (es : List Entry) (s : Saving) → IsOrdered es → list_in false es d ≡ [] → (k ≡ d → ⊥) → exit_in d es k ≡ false
    → (LeadsTo d (links_in es k) → s ≡ Due) → ((LeadsTo d (links_in es k) → ⊥) → s ≡ saving_in es k) → s ≡ saving_in (taken_away d es) k
unfolding taken_away
taken_else d k es s c empty ne stays is_due same =
    saving_without d es (vanished d (exits_gone d es)) k s (left_without d k es c empty ne stays) (saving_left d k es ne ∙ ap (λ b. cond b Due (saving_in es k)) stays) is_due same

wiped_due : (d : ℕ) (mid left new : List Slot) → d < length mid → left ≡ map (exit_wiped d) mid → new ≡ changed_at d wiped left → saving_at new d ≡ Due
unfolding saving_at
wiped_due d mid left new lt l n = ap (λ (o : Option Slot). option_map_or (λ (s : Slot). s.saving) o Due) (get_wiped d mid left new lt l n).1

saving_taken : (d : ℕ) (old mid left new : List Slot) → HasOrder old → list_in false (entries_of old) d ≡ [] → d < length old → IsUnlinked d old mid → left ≡ map (exit_wiped d) mid → new ≡ changed_at d wiped left
    → (k : ℕ) → saving_at new k ≡ saving_in (taken_away d (entries_of old)) k
saving_taken d old mid left new s empty lt u l n k =
    let es : List Entry = entries_of old in
    elim (cases_eq k d) [
      | inl e ↦ ap (λ z. saving_at new z) e ∙ wiped_due d mid left new (omega (arith, lt, u.same_length)) l n ∙ sym (ap (λ z. saving_in (taken_away d es) z) e ∙ taken_here d es)
      | inr ne ↦
          let exit : exit_at d mid k ≡ exit_in d es k = exit_same d k old mid u ∙ sym (exit_bridge d k old) in
          let kept : saving_at new k ≡ cond (exit_in d es k) Due (saving_at mid k) = saving_kept_at d k mid left new ne l n ∙ ap (λ b. cond b Due (saving_at mid k)) exit in
          whether (exit_in d es k) (saving_at new k ≡ saving_in (taken_away d es) k)
          (λ h. kept ∙ ap (λ b. cond b Due (saving_at mid k)) h ∙ sym (taken_exit d k es ne h))
          (λ h. let since : saving_at new k ≡ saving_at mid k = kept ∙ ap (λ b. cond b Due (saving_at mid k)) h in
          taken_else d k es (saving_at new k) s.ordered empty ne h (λ q. since ∙ u.due k q) (λ q. since ∙ u.same_savings k q ∙ sym (saving_in-entries_of old k)))
    ]

stood_wiped : (d : ℕ) (s : Slot) → (exit_wiped d s).stood ≡ s.stood
stood_wiped d s = whether (is_exit_of d (shown s)) ((exit_wiped d s).stood ≡ s.stood) (λ h. ap (λ (z : Slot). z.stood) (wiped_is d s h)) (λ h. ap (λ (z : Slot). z.stood) (unwiped_is d s h))

stood_left : (d k : ℕ) (mid left new : List Slot) → left ≡ map (exit_wiped d) mid → new ≡ changed_at d wiped left → stood_at new k ≡ stood_at mid k
unfolding stood_at
stood_left d k mid left new l n =
    ap (λ (z : List Slot). option_and_then (λ (s : Slot). s.stood) (slice_get z k)) n ∙ read_kept (λ (s : Slot). s.stood) left d k wiped (λ s. refl)
    ∙ ap (λ (z : List Slot). option_and_then (λ (s : Slot). s.stood) (slice_get z k)) l
    ∙ ap (λ (o : Option Slot). option_and_then (λ (s : Slot). s.stood) o) (slice_get-map (exit_wiped d) mid k) ∙ kept_then (λ (s : Slot). s.stood) (exit_wiped d) (slice_get mid k) (stood_wiped d)

pub entries_vanished : (d : ℕ) (old mid left new : List Slot) → HasOrder old → list_in false (entries_of old) d ≡ [] → d < length old → IsUnlinked d old mid → left ≡ map (exit_wiped d) mid → new ≡ changed_at d wiped left
    → entries_of new ≡ taken_away d (entries_of old)
unfolding left_list
entries_vanished d old mid left new s empty lt u l n =
    let es : List Entry = entries_of old in
    let known : d < length es = omega (arith, lt, length-entries_of old) in
    let within : d < length mid = omega (arith, lt, u.same_length) in
    let same_length : length new ≡ length old = ap (λ (z : List Slot). length z) n ∙ length_changed left d wiped ∙ length_wiped d mid left l ∙ u.same_length in
    let gone : (object_in (vanished d (exits_gone d es)) d ≡ Some garbage) × (mark_in (vanished d (exits_gone d es)) d ≡ Some Gone) × ((v : Bool) → list_in v (vanished d (exits_gone d es)) d ≡ []) = gone_here d es known in
    let here : (object_at new d ≡ Some garbage) × (mark_at new d ≡ Some Gone) = wiped_here d mid left new within l n in
    let exits : (k : ℕ) → exit_at d mid k ≡ exit_in d es k = λ k. exit_same d k old mid u ∙ sym (exit_bridge d k old) in
    entries_ext (entries_of new) (taken_away d es)
    (length-entries_of new ∙ same_length ∙ sym (length-entries_of old) ∙ sym (length_taken es d))
    (λ k. object_in-entries_of new k ∙ (elim (cases_eq k d) [
      | inl e ↦ ap (λ z. object_at new z) e ∙ here.0 ∙ sym gone.0 ∙ ap (λ z. object_in (vanished d (exits_gone d es)) z) (sym e)
      | inr ne ↦ object_kept_at d k mid left new ne l n ∙ ap (λ (o : Option Object). option_map (left_object d) o) (u.same_objects k ∙ sym (object_in-entries_of old k)) ∙ sym (object_left_in d k es ne)
    ]) ∙ sym (object_taken es d k))
    (λ v k. list_in-entries_of v new k ∙ (elim (cases_eq k d) [
      | inl e ↦ ap (λ z. list_at v new z) e ∙ list_is v new d [] (chain_empty (length new) (next_at new) (first_at v new d) (first_here v d mid left new within l n)) ∙ sym (gone.2 v) ∙ ap (λ z. list_in v (vanished d (exits_gone d es)) z) (sym e)
      | inr ne ↦ list_is v new k (left_list d old v k) (chain_left v d k old mid left new s u l n ne)
          ∙ ap (λ b. cond b [] (without_number d (list_at v old k))) (sym (exit_bridge d k old))
          ∙ ap (λ z. cond (exit_in d es k) [] (without_number d z)) (sym (list_in-entries_of v old k))
          ∙ sym (list_left_in v d k es ne)
    ]) ∙ sym (list_taken v es d k))
    (λ k. mark_in-entries_of new k ∙ (elim (cases_eq k d) [
      | inl e ↦ ap (λ z. mark_at new z) e ∙ here.1 ∙ sym gone.1 ∙ ap (λ z. mark_in (vanished d (exits_gone d es)) z) (sym e)
      | inr ne ↦ mark_kept_at d k mid left new ne l n ∙ ap (λ b. cond b (Some Gone) (mark_at mid k)) (exits k) ∙ ap (λ z. cond (exit_in d es k) (Some Gone) z) (u.same_marks k ∙ sym (mark_in-entries_of old k)) ∙ sym (mark_left_in d k es ne)
    ]) ∙ sym (mark_taken es d k))
    (λ k. saving_in-entries_of new k ∙ saving_taken d old mid left new s empty lt u l n k)
    (λ k. stood_in-entries_of new k ∙ stood_left d k mid left new l n ∙ u.same_stood k ∙ sym (stood_in-entries_of old k) ∙ sym (stood_taken d es k))

-- All steps.

pub recycled_from : (d : ℕ) (old mid new : List Slot) → entries_of mid ≡ sent_home (list_in false (entries_of old) d) (untied d (entries_of old)) → entries_of new ≡ taken_away d (entries_of mid) → entries_of new ≡ recycled d (entries_of old)
unfolding recycled
recycled_from d old mid new e f = f ∙ ap (λ (z : List Entry). taken_away d z) e

pub length_cleared : (d : ℕ) (old mid : List Slot) → d < length old → entries_of mid ≡ sent_home (list_in false (entries_of old) d) (untied d (entries_of old)) → d < length mid
length_cleared d old mid lt e = omega (
  arith,
  lt,
  length-entries_of old,
  length-entries_of mid,
  ap (λ (z : List Entry). length z) e,
  length_sent_home (untied d (entries_of old)) (list_in false (entries_of old) d),
  length_untied d (entries_of old),
)

vanished_kind : (d : ℕ) (es : List Entry) → kind_in (vanished d es) d ≡ Garbage
unfolding vanished kind_in object_in gone_entry garbage
vanished_kind d es = rw (get_changed_same (map (left_out d) es) d gone_entry) (by_cases (slice_get (map (left_out d) es) d))
  where
    by_cases : (a : Option Entry) → option_map_or (λ (o : Object). o.kind) (option_map (λ (e : Entry). e.object) (option_map gone_entry a)) Garbage ≡ Garbage
    by_cases None = refl
    by_cases (Some e) = refl

-- whoever is a player behind it was one before
player_left : (d k : ℕ) (es : List Entry) → is_player (kind_in (vanished d (exits_gone d es)) k) ≡ true → is_player (kind_in es k) ≡ true
unfolding kind_in left_object garbage
player_left d k es h = elim (cases_eq k d) [
  | inl e ↦ absurd (false≢true (sym (ap (λ z. is_player z) (ap (λ z. kind_in (vanished d (exits_gone d es)) z) e ∙ vanished_kind d (exits_gone d es))) ∙ h))
  | inr ne ↦ at (object_in es k) (sym (ap (λ (o : Option Object). is_player (option_map_or (λ (x : Object). x.kind) o Garbage)) (object_left_in d k es ne)) ∙ h)
]
  where
    here : (o : Object) (b : Bool) → is_player (cond b garbage o).kind ≡ true → is_player o.kind ≡ true
    here o true h = absurd (false≢true h)
    here o false h = h

    at : (o : Option Object) → is_player (option_map_or (λ (x : Object). x.kind) (option_map (left_object d) o) Garbage) ≡ true → is_player (option_map_or (λ (x : Object). x.kind) o Garbage) ≡ true
    at None h = h
    at (Some o) h = here o (is_exit_of d o) h

player_before : (d k : ℕ) (es : List Entry) → is_player (kind_in (recycled d es) k) ≡ true → is_player (kind_in es k) ≡ true
unfolding recycled
player_before d k es h =
    let sent : List Entry = sent_home (list_in false es d) (untied d es) in
    sym (ap (λ z. is_player z) (kind_sent_home (untied d es) (list_in false es d) k ∙ kind_untied d k es)) ∙ player_left d k sent (sym (ap (λ z. is_player z) (kind_taken sent d k)) ∙ h)

pub kept_recycled : (d : Dbref) (n : ℕ) (old new : List Slot) (players : List ℕ) → recycle_check d (entries_of old) ≡ Ok n → entries_of new ≡ recycled n (entries_of old) → ((v : Bool) (p : ℕ) → Ends (length new) (next_at new) (first_at v new p)) → IsSound old → HasPlayers old players → IsKept new 0 0 players
kept_recycled d n old new players passed is ends sound listed =
    let C : List Entry → Type 0 = λ z. IsConsistent z in
    record {
      sound = record { ends = ends; world = subst C (sym is) (consistent_recycled d (entries_of old) n passed sound.world); limits = subst IsWithinLimits (sym is) (limits_recycled n (entries_of old) sound.limits) };
      full = λ k lt. absurd (omega arith);
      unmarked = λ k lt. absurd (omega arith);
      listed = λ k h. listed k (ap is_player (sym (kind_in-entries_of old k)) ∙ player_before n k (entries_of old) (sym (ap is_player (sym (kind_in-entries_of new k) ∙ ap (λ (z : List Entry). kind_in z k) is)) ∙ h));
    }

pub does_recycled : (check : Result ℕ DbFault) (n : ℕ) (old new : List Entry) → check ≡ Ok n → new ≡ recycled n old → Does recycled check old new (Ok tt)
does_recycled check n old new e is = let P : Result ℕ DbFault → Type 0 = λ r. Does recycled r old new (Ok tt) in subst P (sym e) (refl, is)
