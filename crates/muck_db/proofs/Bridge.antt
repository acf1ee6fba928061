-- From the table to its entries and back.
use Rattle.std.proofs.Common.{◌≡◌, ℕ, ◌<◌, ◌≤◌, zero, suc, List, [], ◌∷◌, Option, Some, None, ◌⊎◌, inl, inr, refl, sym, ◌∙◌, ap, subst, length, arith, Bool, true, false, cond, eqb, ◌||◌, map}
use Rattle.std.proofs.lemmas.Bool.{cases_eq, ne_eqb, eq-eqb}
use Rattle.std.specs.List.{slice_get}
use Rattle.std.specs.Option.{option_map, option_map_or, option_and_then}
use Rattle.muck_laws.proofs.Mapped.{length_map}
use Rattle.muck_model.specs.declared.dbref.Dbref.{Dbref}
use Rattle.spec_live.specs.declared.object.Object.{Object}
use Rattle.spec_live.specs.declared.saving.Saving.{Saving}
use Rattle.spec_live.specs.declared.saving.Saving.TheVariants.{Due}
use Rattle.spec_live.specs.Chain.{walk, IsChain, Ends, Member, follower, without_number, put_at}
use Rattle.spec_live.specs.Objects.{Entry, dbref_of, list_in, place_in, places_from, number_in, changed_at, is_exit, is_garbage, object_in, object_at, kind_in, fits_in, is_vehicle_in, is_player}
use Rattle.spec_live.specs.Moving.{set_down, moved, with_place}
use Rattle.spec_live.specs.Saving.{first_of_list, next_in, links_in, saving_in}
use Rattle.spec_live.specs.Consistent.{MayMove, IsOrdered, IsConsistent, StandsIn}
use Rattle.spec_live.specs.Seen.{listed_in}
use Rattle.spec_live.proofs.Chains.{ends_from, walk_is, walk_next, walk_none, member_none, without_same}
use Rattle.spec_live.proofs.Lists.{length_changed, put_other}
use Rattle.spec_live.proofs.Dues.{saving_down}
use Rattle.spec_live.proofs.KindLaws.{standing_alive}
use Rattle.spec_live.proofs.Orders.{ordered_moved, list_short}
use Rattle.spec_live.proofs.Readers.{entries_ext, kind_alike, place_alike, object_not_down, list_down, length_moved, list_moved, object_moved, object_unmoved, mark_moved, kind_moved}
use Rattle.muck_db.specs.declared.slot.Slot.{Slot}
use Rattle.muck_db.specs.inner.Slots.{next_at, first_at, place_at, kind_at, path_at, is_exit_at, list_at, saving_at, on_slot, dbrefs_from, entries_of, LeadsTo, HasChains, HasOrder, IsSound, IsKept, IsUnlinked, IsLinked}
use Rattle.muck_db.specs.inner.Limits.{IsWithinLimits}
use Rattle.spec_live.proofs.Ties.{consistent_moved}
use Rattle.muck_db.proofs.LimitLaws.{limits_moved}
use Rattle.spec_live.proofs.Tracing.{stood_moved}
use Rattle.muck_db.proofs.Tables.{first-on_slot, next-on_slot, mark-on_slot, stood-on_slot, object-on_slot_same, object-on_slot_other, saving_other}
use Rattle.muck_db.proofs.Leads.{relinked_due, IsWithout, next_without, saving_without, follower_put}
use Rattle.muck_db.proofs.Linked.{chain_at, chain_over, led_from}
use Rattle.muck_db.proofs.Readers.{length-entries_of, object_in-entries_of, list_in-entries_of, place_in-entries_of, is_exit-entries_of, kind_in-entries_of, flags_in-entries_of, home_in-entries_of, owner_in-entries_of, mark_in-entries_of, saving_in-entries_of, stood_in-entries_of}

pub walk_same : (k : ℕ) (f g : ℕ → Option ℕ) (s : Option ℕ) → ((x : ℕ) → g x ≡ f x) → walk k g s ≡ walk k f s
unfolding walk
walk_same zero f g s h = refl
walk_same (suc k) f g None h = refl
walk_same (suc k) f g (Some x) h = rw (h x) (ap (λ t. x ∷ t) (walk_same k f g (f x) h))

pub path_in-entries_of : (slots : List Slot) (k : ℕ) → places_from (entries_of slots) k ≡ path_at slots k
unfolding places_from path_at
path_in-entries_of slots k = rw (length-entries_of slots) (walk_same (length slots) (place_at slots) (place_in (entries_of slots)) (Some k) (place_in-entries_of slots))

pub order_up : (slots : List Slot) → HasOrder slots → (k : ℕ) → k < length slots → Ends (length slots) (place_at slots) (Some k)
unfolding Ends
order_up slots s k lt =
    let h : Ends (length (entries_of slots)) (place_in (entries_of slots)) (Some k) = s.ordered.up k (omega (arith, length-entries_of slots)) in
    ends_from (length slots) (place_at slots) (Some k) (walk (length (entries_of slots)) (place_in (entries_of slots)) (Some k))
    (chain_over (length (entries_of slots)) (length slots) (place_in (entries_of slots)) (place_at slots) (Some k) (Some k) _ _ (sym (length-entries_of slots)) refl refl (λ x m. sym (place_in-entries_of slots x)) h)

pub order_chains : (slots : List Slot) → HasOrder slots → HasChains slots
order_chains slots s = record {
  ends = s.ends;
  stands = λ v p d m.
      let M : List ℕ → Type 0 = λ l. Member d l in
      let t : StandsIn (entries_of slots) v p d = s.ordered.stands v p d (subst M (sym (list_in-entries_of v slots p)) m) in
      record { place = sym (place_in-entries_of slots d) ∙ t.place; kind = sym (is_exit-entries_of slots d) ∙ t.kind };
  listed = λ v p d t.
      let M : List ℕ → Type 0 = λ l. Member d l in
      subst M (list_in-entries_of v slots p) (s.ordered.listed v p d (record { place = place_in-entries_of slots d ∙ t.place; kind = is_exit-entries_of slots d ∙ t.kind }));
}

-- a number whose list has something is in the table
pub list_within : (v : Bool) (slots : List Slot) (p d : ℕ) → Member d (list_at v slots p) → p < length slots
unfolding list_at first_at
list_within v slots p d m = elim (cases_within (slice_get slots p) refl) [ inl h ↦ h | inr e ↦ absurd (member_none (length slots) (next_at slots) (first_at v slots p) d (rw e refl) m) ]
  where
    within : (xs : List Slot) (k : ℕ) (x : Slot) → slice_get xs k ≡ Some x → k < length xs
    within [] k x h = absurd (cc)
    within (y ∷ ys) zero x h = omega arith
    within (y ∷ ys) (suc k) x h = let r : k < length ys = within ys k x h in omega arith

    cases_within : (o : Option Slot) → slice_get slots p ≡ o → (p < length slots) ⊎ (slice_get slots p ≡ None)
    cases_within None e = inr e
    cases_within (Some x) e = inl (within slots p x e)

pub list_is : (v : Bool) (slots : List Slot) (p : ℕ) (xs : List ℕ) → IsChain (length slots) (next_at slots) (first_at v slots p) xs → list_at v slots p ≡ xs
unfolding list_at
list_is v slots p xs h = walk_is (length slots) (next_at slots) (first_at v slots p) xs h

-- d stands nowhere already
pub unlinked_none : (d : ℕ) (slots : List Slot) → HasChains slots → place_at slots d ≡ None → IsUnlinked d slots slots
unlinked_none d slots h none = record {
  same_length = refl;
  same_objects = λ k. refl;
  same_marks = λ k. refl;
  same_stood = λ k. refl;
  due = λ k leads. let m : (v : Bool) × (q : ℕ) × Member d (list_at v slots q) = led_from slots d k leads in absurd (cc ((h.stands m.0 m.1 d m.2).place, none));
  same_savings = λ k leads. refl;
  chains = λ v p. chain_over _ _ _ _ _ _ _ _ refl refl (without_same d (list_at v slots p) (λ m. absurd (cc ((h.stands v p d m).place, none)))) (λ x m. refl) (chain_at slots h v p);
}

-- the object alone is written
pub chain_on_slot : (n : ℕ) (f : Object → Object) (old mid new : List Slot) (v : Bool) (p : ℕ) (xs : List ℕ) → new ≡ changed_at n (on_slot f) mid
    → IsChain (length mid) (next_at mid) (first_at v mid p) xs → IsChain (length new) (next_at new) (first_at v new p) xs
chain_on_slot n f old mid new v p xs is_new h =
    chain_over (length mid) (length new) (next_at mid) (next_at new) (first_at v mid p) (first_at v new p) xs xs
    (rw is_new (length_changed mid n (on_slot f))) (rw is_new (first-on_slot v mid n p f)) refl (λ x m. rw is_new (next-on_slot mid n x f)) h

pub placed_chain : (d : ℕ) (f : Object → Object) (old mid new : List Slot) → IsUnlinked d old mid → new ≡ changed_at d (on_slot f) mid
    → (v : Bool) (p : ℕ) → IsChain (length new) (next_at new) (first_at v new p) (without_number d (list_at v old p))
placed_chain d f old mid new u is_new v p = chain_on_slot d f old mid new v p (without_number d (list_at v old p)) is_new (u.chains v p)

-- The marks behind a move.

moved_here : (es : List Entry) (d to : ℕ) → saving_in (moved d to es) d ≡ Due
unfolding moved
moved_here es d to = relinked_due es (set_down d to es) d (saving_down es d to d ∙ rw (eq-eqb d d refl) refl)

moved_there : (es : List Entry) (d to : ℕ) → saving_in (moved d to es) to ≡ Due
unfolding moved
moved_there es d to = relinked_due es (set_down d to es) to (saving_down es d to to ∙ rw (eq-eqb to to refl) (either (eqb to d)))
  where
    either : (b : Bool) → cond (b || true) Due (saving_in es to) ≡ Due
    either true = refl
    either false = refl

next_down : (es : List Entry) (d to k : ℕ) → to < length es → (k ≡ d → ⊥) → next_in (set_down d to es) k ≡ next_without d es k
unfolding next_in next_without
next_down es d to k lt other =
    let fs : List Entry = set_down d to es in
    let same : object_in fs k ≡ object_in es k = object_not_down es d to k other in
    rw (place_alike es fs k same, kind_alike es fs k same) (by_cases (place_in es k))
  where
    by_cases : (o : Option ℕ) → option_and_then (λ p. follower k (list_in (is_exit (kind_in es k)) (set_down d to es) p)) o ≡ option_and_then (λ p. follower k (without_number d (list_in (is_exit (kind_in es k)) es p))) o
    by_cases None = refl
    by_cases (Some p) =
        let v : Bool = is_exit (kind_in es k) in
        ap (λ l. follower k l) (list_down v es d to p lt) ∙ follower_put (is_exit (kind_in es d)) v d to p k (without_number d (list_in v es p)) other

down_without : (es : List Entry) (d to k : ℕ) → to < length es → (k ≡ d → ⊥) → (k ≡ to → ⊥) → IsWithout d es (set_down d to es) k
down_without es d to k lt other elsewhere = record {
  other = other;
  fronts = λ v. ap first_of_list (list_down v es d to k lt ∙ put_other (is_exit (kind_in es d)) to d v k (without_number d (list_in v es k)) (λ a. elsewhere));
  next = next_down es d to k lt other;
}

down_same : (es : List Entry) (d to k : ℕ) → (k ≡ d → ⊥) → (k ≡ to → ⊥) → saving_in (set_down d to es) k ≡ saving_in es k
down_same es d to k other elsewhere = saving_down es d to k ∙ rw (ne_eqb k d other, ne_eqb k to elsewhere) refl

moved_else : (es : List Entry) (d to k : ℕ) (s : Saving) → to < length es → (k ≡ d → ⊥) → (k ≡ to → ⊥) → (LeadsTo d (links_in es k) → s ≡ Due) → ((LeadsTo d (links_in es k) → ⊥) → s ≡ saving_in es k) → s ≡ saving_in (moved d to es) k
unfolding moved
moved_else es d to k s lt other elsewhere is_due same = saving_without d es (set_down d to es) k s (down_without es d to k lt other elsewhere) (down_same es d to k other elsewhere) is_due same

saving_placed : (d to : ℕ) (w : Bool) (old mid placed new : List Slot) → to < length old → IsUnlinked d old mid → placed ≡ changed_at d (on_slot (with_place to)) mid → IsLinked w to d placed new
    → (k : ℕ) → saving_at new k ≡ saving_in (moved d to (entries_of old)) k
saving_placed d to w old mid placed new lt u is_placed l k = elim (cases_eq k d) [
  | inl e ↦ ap (λ z. saving_at new z) e ∙ l.due ∙ sym (ap (λ z. saving_in (moved d to (entries_of old)) z) e ∙ moved_here (entries_of old) d to)
  | inr other ↦ elim (cases_eq k to) [
    | inl e ↦ ap (λ z. saving_at new z) e ∙ l.place_due ∙ sym (ap (λ z. saving_in (moved d to (entries_of old)) z) e ∙ moved_there (entries_of old) d to)
    | inr elsewhere ↦
        let since : saving_at new k ≡ saving_at mid k = l.same_savings k other elsewhere ∙ ap (λ (z : List Slot). saving_at z k) is_placed ∙ saving_other mid d k (on_slot (with_place to)) other in
        moved_else (entries_of old) d to k (saving_at new k) (omega (arith, lt, length-entries_of old)) other elsewhere
        (λ h. since ∙ u.due k h) (λ h. since ∙ u.same_savings k h ∙ sym (saving_in-entries_of old k))
  ]
]

-- the three steps make the move
pub entries_moved : (d to : ℕ) (w : Bool) (old mid placed new : List Slot) → is_exit_at old d ≡ w → to < length old → is_garbage (kind_at mid d) ≡ false → IsUnlinked d old mid → placed ≡ changed_at d (on_slot (with_place to)) mid → IsLinked w to d placed new
    → entries_of new ≡ moved d to (entries_of old)
entries_moved d to w old mid placed new exit lt alive u is_placed l =
    let same_length : length new ≡ length old = l.same_length ∙ rw is_placed (length_changed mid d (on_slot (with_place to))) ∙ u.same_length in
    entries_ext (entries_of new) (moved d to (entries_of old))
    (length-entries_of new ∙ same_length ∙ sym (length-entries_of old) ∙ sym (length_moved (entries_of old) d to))
    (λ k. object_in-entries_of new k ∙ l.same_objects k ∙ elim (cases_eq k d) [
      | inl e ↦ rw (e, is_placed) (object-on_slot_same mid d (with_place to) alive) ∙ ap (λ (o : Option Object). option_map (with_place to) o) (u.same_objects d ∙ sym (object_in-entries_of old d)) ∙ rw e (sym (object_moved (entries_of old) d to))
      | inr e ↦ rw is_placed (object-on_slot_other mid d k (with_place to) e) ∙ u.same_objects k ∙ sym (object_in-entries_of old k) ∙ sym (object_unmoved (entries_of old) d to k e)
    ])
    (λ v k. list_in-entries_of v new k ∙ list_is v new k _ (l.chains v k)
    ∙ ap (λ t. put_at w to d v k t) (list_is v placed k (without_number d (list_at v old k)) (placed_chain d (with_place to) old mid placed u is_placed v k))
    ∙ sym (rw (is_exit-entries_of old d, exit, list_in-entries_of v old k) at (list_moved v (entries_of old) d to k (omega (arith, length-entries_of old)))))
    (λ k. mark_in-entries_of new k ∙ l.same_marks k ∙ rw is_placed (mark-on_slot mid d k (with_place to)) ∙ u.same_marks k ∙ sym (mark_in-entries_of old k) ∙ sym (mark_moved (entries_of old) d to k))
    (λ k. saving_in-entries_of new k ∙ saving_placed d to w old mid placed new lt u is_placed l k)
    (λ k. stood_in-entries_of new k ∙ l.same_stood k ∙ rw is_placed (stood-on_slot mid d k (with_place to)) ∙ u.same_stood k ∙ sym (stood_in-entries_of old k) ∙ sym (stood_moved d to (entries_of old) k))

pub order_moved : (d to : ℕ) (w : Bool) (old placed new : List Slot) → HasOrder old → MayMove (entries_of old) d to → IsLinked w to d placed new → entries_of new ≡ moved d to (entries_of old) → HasOrder new
order_moved d to w old placed new s may l is = record {
  ends = λ v p. ends_from (length new) (next_at new) (first_at v new p) (put_at w to d v p (list_at v placed p)) (l.chains v p);
  ordered = let P : List Entry → Type 0 = λ z. IsOrdered z in subst P (sym is) (ordered_moved (entries_of old) d to may s.ordered);
}

pub ruleset homes = (kind_in-entries_of, home_in-entries_of, owner_in-entries_of)

pub ruleset kinds = (kind_in-entries_of, flags_in-entries_of, path_in-entries_of)

-- the iterator over a list
pub ends_none : (n : ℕ) (f : ℕ → Option ℕ) → Ends n f None
unfolding Ends IsChain
ends_none n f = let P : List ℕ → Type 0 = λ l. IsChain n f None l in subst P (sym (walk_none n f)) refl

pub dbrefs_none : (slots : List Slot) → dbrefs_from slots None ≡ []
unfolding dbrefs_from
dbrefs_none slots = rw (walk_none (length slots) (next_at slots)) refl

pub dbrefs_next : (slots : List Slot) (s t : Option ℕ) (x : ℕ) → s ≡ Some x → t ≡ next_at slots x → Ends (length slots) (next_at slots) s → dbrefs_from slots s ≡ dbref_of x ∷ dbrefs_from slots t
unfolding dbrefs_from
dbrefs_next slots s t x e to h = ap (λ (l : List ℕ). map dbref_of l) (walk_next (length slots) (next_at slots) s t x e to h)

pub dbrefs_list : (v : Bool) (slots : List Slot) (k : ℕ) → dbrefs_from slots (first_at v slots k) ≡ map dbref_of (list_in v (entries_of slots) k)
unfolding dbrefs_from list_at
dbrefs_list v slots k = ap (λ (l : List ℕ). map dbref_of l) (sym (list_in-entries_of v slots k))

pub listed_none : (v : Bool) (es : List Entry) (d : Dbref) → number_in es d ≡ None → listed_in v d es ≡ []
unfolding listed_in
listed_none v es d h = rw h refl

pub listed_some : (v : Bool) (es : List Entry) (d : Dbref) (k : ℕ) → number_in es d ≡ Some k → listed_in v d es ≡ map dbref_of (list_in v es k)
unfolding listed_in
listed_some v es d k h = rw h refl

pub sound_order : (slots : List Slot) → IsSound slots → HasOrder slots
sound_order slots s = record { ends = s.ends; ordered = s.world.ordered }

-- the kind of what an unlinking leaves
pub unlinked_kind : (d k : ℕ) (old new : List Slot) → IsUnlinked d old new → kind_at new k ≡ kind_at old k
unfolding kind_at
unlinked_kind d k old new u = rw (u.same_objects k) refl

-- what may move is alive
pub moves_alive : (d to : ℕ) (old mid : List Slot) → MayMove (entries_of old) d to → IsUnlinked d old mid → is_garbage (kind_at mid d) ≡ false
unfolding fits_in
moves_alive d to old mid may u = rw (unlinked_kind d d old mid u, ← kind_in-entries_of old d) (standing_alive (kind_in (entries_of old) d) (kind_in (entries_of old) to) (is_vehicle_in (entries_of old) to) may.fits)

pub seen_none : (es : List Entry) (d : Dbref) → number_in es d ≡ None → object_at d es ≡ None
unfolding object_at
seen_none es d h = rw h refl

pub seen_some : (es : List Entry) (d : Dbref) (k : ℕ) → number_in es d ≡ Some k → object_at d es ≡ object_in es k
unfolding object_at
seen_some es d k h = rw h refl

-- a move keeps the rule of the type
pub kept_moved : (old new : List Slot) (d to lowest told : ℕ) (players : List ℕ) → MayMove (entries_of old) d to → entries_of new ≡ moved d to (entries_of old) → HasOrder new → IsKept old lowest told players → IsKept new lowest told players
kept_moved old new d to lowest told players may is order kept = record {
  sound = record { ends = order.ends; world = let P : List Entry → Type 0 = λ z. IsConsistent z in subst P (sym is) (consistent_moved (entries_of old) d to may kept.sound.world); limits = subst IsWithinLimits (sym is) (limits_moved d to (entries_of old) kept.sound.limits) };
  full = λ k lt. rw (← kind_in-entries_of new k, is, kind_moved (entries_of old) d to k, kind_in-entries_of old k) (kept.full k lt);
  unmarked = λ k lt. rw (← mark_in-entries_of new k, is, mark_moved (entries_of old) d to k, mark_in-entries_of old k) (kept.unmarked k lt);
  listed = λ k h. kept.listed k (ap is_player (sym (kind_in-entries_of old k) ∙ sym (kind_moved (entries_of old) d to k) ∙ ap (λ (z : List Entry). kind_in z k) (sym is) ∙ kind_in-entries_of new k) ∙ h);
}

pub listed_short : (es : List Entry) (v : Bool) (d : Dbref) → IsOrdered es → length (listed_in v d es) ≤ length es
unfolding listed_in
listed_short es v d c = by_cases (number_in es d)
  where
    by_cases : (o : Option ℕ) → length (option_map_or (λ n. map dbref_of (list_in v es n)) o []) ≤ length es
    by_cases None = omega arith
    by_cases (Some n) = omega (arith, length_map dbref_of (list_in v es n), list_short es v n c)
