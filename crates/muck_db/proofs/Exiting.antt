-- The exits of an object become garbage, one behind the other of its list.
use Rattle.std.proofs.Common.{◌≡◌, ℕ, ◌<◌, ◌≤◌, List, [], ◌∷◌, Option, Some, None, inl, inr, refl, sym, ◌∙◌, ap, subst, length, arith, Bool, true, false, map}
use Rattle.std.proofs.lemmas.Bool.{cases_eq, false≢true}
use Rattle.std.proofs.lemmas.Option.{slice_get-map}
use Rattle.std.specs.List.{slice_get}
use Rattle.std.specs.Option.{option_map, option_and_then, option_map_or}
use Rattle.muck_laws.proofs.Places.{get_ext}
use Rattle.muck_laws.proofs.Truths.{whether}
use Rattle.muck_model.specs.declared.dbref.Kind.TheVariants.{Garbage}
use Rattle.spec_live.specs.declared.object.Object.{Object}
use Rattle.spec_live.specs.Chain.{walk, IsChain, Ends, Member, IsApart, without_number}
use Rattle.spec_live.specs.Objects.{Entry, changed_at, list_in}
use Rattle.spec_live.specs.Recycling.{is_exit_of}
use Rattle.spec_live.specs.Consistent.{StandsIn}
use Rattle.spec_live.proofs.Chains.{ends_from, ends_next, walk_is, walk_next, chain_apart, apart_first, member_here, member_none, member_without}
use Rattle.spec_live.proofs.Lists.{length_changed, get_changed_same, get_changed_other}
use Rattle.muck_db.specs.declared.slot.Slot.{Slot}
use Rattle.muck_db.specs.inner.Slots.{shown, object_at, kind_at, mark_at, next_at, first_at, list_at, wiped, exit_wiped, entries_of, HasOrder, IsUnlinked}
use Rattle.muck_db.specs.inner.Exits.{exit_at, ListsExits}
use Rattle.muck_db.proofs.Readers.{list_in-entries_of}
use Rattle.muck_db.proofs.Linked.{chain_over}
use Rattle.muck_db.proofs.Bridge.{list_is}
use Rattle.muck_db.proofs.Leaving.{unwiped_is, exit_same, exit_bridge, exit_stands_in, place_stays}

-- what has left its list is still in that of its exits
pub lists_exits : (d : ℕ) (old mid : List Slot) → HasOrder old → IsUnlinked d old mid → ListsExits d mid
lists_exits d old mid s u =
    let es : List Entry = entries_of old in
    record {
      ends = ends_from (length mid) (next_at mid) (first_at true mid d) (without_number d (list_at true old d)) (u.chains true d);
      listed = λ k h.
          let is : exit_at d old k ≡ true = sym (exit_same d k old mid u) ∙ h in
          let stands : StandsIn es true d k = exit_stands_in d k es (exit_bridge d k old ∙ is) in
          let here : Member k (list_at true old d) = subst (Member k) (list_in-entries_of true old d) (s.ordered.listed true d k stands) in
          let other : k ≡ d → ⊥ =
          λ e. let own : StandsIn es true d d = subst (λ (z : ℕ). StandsIn es true d z) e stands in
          false≢true (sym (sym (exit_bridge d d old) ∙ place_stays d d d es s.ordered own.place) ∙ subst (λ (z : ℕ). exit_at d old z ≡ true) e is) in
          subst (Member k) (sym (list_is true mid d (without_number d (list_at true old d)) (u.chains true d))) (member_without d k (list_at true old d) other here);
    }

-- a walk over the exits of d: what is still before it is as it was, and everything else is done
pub record WipesOn (d : ℕ) (old cur : List Slot) (at : Option ℕ) : Type 0 where
  pub same_length : length cur ≡ length old
  pub ends : Ends (length cur) (next_at cur) at
  pub left : (k : ℕ) → Member k (walk (length cur) (next_at cur) at) → slice_get cur k ≡ slice_get old k
  pub done : (k : ℕ) → (Member k (walk (length cur) (next_at cur) at) → ⊥) → slice_get cur k ≡ option_map (exit_wiped d) (slice_get old k)

no_exit : (d k : ℕ) (slots : List Slot) → exit_at d slots k ≡ false → slice_get slots k ≡ option_map (exit_wiped d) (slice_get slots k)
unfolding exit_at object_at
no_exit d k slots h = by_cases (slice_get slots k) h
  where
    by_cases : (o : Option Slot) → option_map_or (is_exit_of d) (option_map shown o) false ≡ false → o ≡ option_map (exit_wiped d) o
    by_cases None q = refl
    by_cases (Some s) q = ap (λ (z : Slot). Some z) (sym (unwiped_is d s q))

pub wipes_none : (d : ℕ) (old : List Slot) (at : Option ℕ) → at ≡ first_at true old d → ListsExits d old → WipesOn d old old at
unfolding list_at
wipes_none d old at is l = subst (λ (z : Option ℕ). WipesOn d old old z) (sym is) (record {
  same_length = refl;
  ends = l.ends;
  left = λ k m. refl;
  done = λ k no. whether (exit_at d old k) (slice_get old k ≡ option_map (exit_wiped d) (slice_get old k)) (λ h. absurd (no (l.listed k h))) (λ h. no_exit d k old h);
})

next_kept : (x y : ℕ) (f : Slot → Slot) (slots : List Slot) → (y ≡ x → ⊥) → next_at (changed_at x f slots) y ≡ next_at slots y
unfolding next_at
next_kept x y f slots ne = ap (λ (o : Option Slot). option_and_then (λ (s : Slot). s.next) o) (get_changed_other slots x y f ne)

-- the rest of the walk, seen before and behind a turn
record Rest (x : ℕ) (cur new : List Slot) (at next : Option ℕ) : Type 0 where
  list : walk (length cur) (next_at cur) at ≡ x ∷ walk (length cur) (next_at cur) next
  apart : Member x (walk (length cur) (next_at cur) next) → ⊥
  ends : Ends (length new) (next_at new) next
  same : walk (length new) (next_at new) next ≡ walk (length cur) (next_at cur) next

rest_of : (d x : ℕ) (cur new : List Slot) (at next : Option ℕ) → at ≡ Some x → next ≡ next_at cur x → new ≡ changed_at x (exit_wiped d) cur → Ends (length cur) (next_at cur) at → Rest x cur new at next
unfolding Ends
rest_of d x cur new at next here to is ends =
    let n : ℕ = length cur in
    let f : ℕ → Option ℕ = next_at cur in
    let xs : List ℕ = walk n f next in
    let list : walk n f at ≡ x ∷ xs = walk_next n f at next x here to ends in
    let apart : Member x xs → ⊥ = apart_first x xs (subst IsApart list (chain_apart n f at (walk n f at) ends)) in
    let frame : (y : ℕ) → Member y xs → next_at new y ≡ f y =
    λ y m. ap (λ (z : List Slot). next_at z y) is ∙ next_kept x y (exit_wiped d) cur (λ e. apart (subst (λ (z : ℕ). Member z xs) e m)) in
    let chain : IsChain (length new) (next_at new) next xs =
    chain_over n (length new) f (next_at new) next next xs xs (ap (λ (z : List Slot). length z) is ∙ length_changed cur x (exit_wiped d)) refl refl frame (ends_next n f at next x here to ends) in
    record {
      list = list;
      apart = apart;
      ends = ends_from (length new) (next_at new) next xs chain;
      same = walk_is (length new) (next_at new) next xs chain;
    }

member_tail : (x k : ℕ) (xs ys : List ℕ) → ys ≡ x ∷ xs → Member k xs → Member k ys
unfolding Member
member_tail x k xs ys e m = subst (Member k) (sym e) (inr m)

tail_member : (x k : ℕ) (xs ys : List ℕ) → ys ≡ x ∷ xs → (k ≡ x → ⊥) → Member k ys → Member k xs
unfolding Member
tail_member x k xs ys e ne m = elim (subst (Member k) e m) [ inl q ↦ absurd (ne q) | inr q ↦ q ]

pub wipes_more : (d x : ℕ) (old cur new : List Slot) (at next : Option ℕ) → at ≡ Some x → next ≡ next_at cur x → new ≡ changed_at x (exit_wiped d) cur → WipesOn d old cur at → WipesOn d old new next
wipes_more d x old cur new at next here to is w =
    let r : Rest x cur new at next = rest_of d x cur new at next here to is w.ends in
    let xs : List ℕ = walk (length cur) (next_at cur) next in
    record {
      same_length = ap (λ (z : List Slot). length z) is ∙ length_changed cur x (exit_wiped d) ∙ w.same_length;
      ends = r.ends;
      left = λ k m.
          let there : Member k xs = subst (Member k) r.same m in
          ap (λ (z : List Slot). slice_get z k) is ∙ get_changed_other cur x k (exit_wiped d) (λ e. r.apart (subst (λ (z : ℕ). Member z xs) e there)) ∙ w.left k (member_tail x k xs _ r.list there);
      done = λ k no. ap (λ (z : List Slot). slice_get z k) is ∙ elim (cases_eq k x) [
        | inl e ↦ subst (λ (z : ℕ). slice_get (changed_at x (exit_wiped d) cur) z ≡ option_map (exit_wiped d) (slice_get old z)) (sym e) (get_changed_same cur x (exit_wiped d) ∙ ap (λ (o : Option Slot). option_map (exit_wiped d) o) (w.left x (member_here _ _ _ x here w.ends)))
        | inr ne ↦ get_changed_other cur x k (exit_wiped d) ne ∙ w.done k (λ m. no (subst (Member k) (sym r.same) (tail_member x k xs _ r.list ne m)))
      ];
    }

pub wipes_all : (d : ℕ) (old cur : List Slot) (at : Option ℕ) → at ≡ None → WipesOn d old cur at → cur ≡ map (exit_wiped d) old
wipes_all d old cur at none w = get_ext cur (map (exit_wiped d) old) (λ k. w.done k (λ m. member_none _ _ at k none m) ∙ sym (slice_get-map (exit_wiped d) old k))

pub wipes_shorter : (d x : ℕ) (old cur new : List Slot) (at next : Option ℕ) → at ≡ Some x → next ≡ next_at cur x → new ≡ changed_at x (exit_wiped d) cur → WipesOn d old cur at → length (walk (length new) (next_at new) next) < length (walk (length cur) (next_at cur) at)
wipes_shorter d x old cur new at next here to is w =
    let r : Rest x cur new at next = rest_of d x cur new at next here to is w.ends in
    omega (arith, ap (λ (l : List ℕ). length l) r.same, ap (λ (l : List ℕ). length l) r.list)

-- What stands below all that is wiped.

pub below_wiped : (d x k : ℕ) (old cur new : List Slot) → new ≡ changed_at x (exit_wiped d) cur → k < x → slice_get cur k ≡ slice_get old k → slice_get new k ≡ slice_get old k
below_wiped d x k old cur new is lt same = ap (λ (z : List Slot). slice_get z k) is ∙ get_changed_other cur x k (exit_wiped d) (λ e. omega (arith, e, lt)) ∙ same

pub kind_below : (d least k : ℕ) (old mid left new : List Slot) → IsUnlinked d old mid → least ≤ d → k < least → ((j : ℕ) → j < least → slice_get left j ≡ slice_get mid j) → new ≡ changed_at d wiped left → kind_at new k ≡ kind_at old k
unfolding kind_at object_at
kind_below d least k old mid left new u le lt below is =
    ap (λ (o : Option Object). option_map_or (λ (x : Object). x.kind) o Garbage)
    (ap (λ (o : Option Slot). option_map shown o) (ap (λ (z : List Slot). slice_get z k) is ∙ get_changed_other left d k wiped (λ e. omega (arith, e, lt, le)) ∙ below k lt) ∙ same_at k)
  where
    same_at : (k : ℕ) → option_map shown (slice_get mid k) ≡ option_map shown (slice_get old k)
    same_at k = u.same_objects k

pub mark_below : (d least k : ℕ) (old mid left new : List Slot) → IsUnlinked d old mid → least ≤ d → k < least → ((j : ℕ) → j < least → slice_get left j ≡ slice_get mid j) → new ≡ changed_at d wiped left → mark_at new k ≡ mark_at old k
unfolding mark_at
mark_below d least k old mid left new u le lt below is =
    ap (λ (o : Option Slot). option_and_then (λ (s : Slot). s.mark) o) (ap (λ (z : List Slot). slice_get z k) is ∙ get_changed_other left d k wiped (λ e. omega (arith, e, lt, le)) ∙ below k lt) ∙ same_at k
  where
    same_at : (k : ℕ) → option_and_then (λ (s : Slot). s.mark) (slice_get mid k) ≡ option_and_then (λ (s : Slot). s.mark) (slice_get old k)
    same_at k = u.same_marks k
