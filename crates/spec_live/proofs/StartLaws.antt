-- The first objects are consistent, and telling of a change leaves them so.
use Rattle.std.proofs.Common.{◌≡◌, ℕ, ◌<◌, zero, suc, List, [], ◌∷◌, Option, Some, None, ◌⊎◌, inl, inr, refl, sym, ◌∙◌, ap, subst, length, arith, Bool, true, false}
use Rattle.std.proofs.lemmas.Bool.{false≢true}
use Rattle.std.specs.Option.{option_map_or}
use Rattle.muck_model.specs.declared.dbref.Kind.TheVariants.{Garbage}
use Rattle.spec_live.specs.declared.object.Object.{Object}
use Rattle.spec_live.specs.declared.mark.Mark.{Mark}
use Rattle.spec_live.specs.Chain.{IsChain, Ends, Member, IsApart}
use Rattle.spec_live.specs.Objects.{Entry, garbage, entry_list, is_garbage, object_in, list_in, kind_in, place_in, fits_in, is_vehicle_in, flags_in, changed_at}
use Rattle.spec_live.specs.Marks.{entry_unmarked, marked_from, change_told}
use Rattle.spec_live.specs.Start.{room_zero, player_one, first_objects}
use Rattle.spec_live.specs.Consistent.{IsTied, StandsIn, IsConsistent}
use Rattle.spec_live.proofs.Chains.{ends_from}
use Rattle.spec_live.proofs.Lists.{length_changed}
use Rattle.spec_live.proofs.Readers.{object_change, list_change}
use Rattle.spec_live.proofs.Orders.{up_alone}
use Rattle.spec_live.proofs.Ties.{consistent_seen}

first_stands : (v : Bool) (p d : ℕ) → Member d (list_in v first_objects p) → StandsIn first_objects v p d
unfolding Member list_in first_objects place_in kind_in object_in room_zero player_one
first_stands true zero d m = elim m [ ]
first_stands true (suc zero) d m = elim m [ ]
first_stands true (suc (suc p)) d m = elim m [ ]
first_stands false zero d m = elim m [
  | inl e ↦ let P : ℕ → Type 0 = λ z. StandsIn first_objects false 0 z in subst P (sym e) (record { place = refl; kind = refl })
  | inr q ↦ elim q [ ]
]
first_stands false (suc zero) d m = elim m [ ]
first_stands false (suc (suc p)) d m = elim m [ ]

first_listed : (v : Bool) (p d : ℕ) → StandsIn first_objects v p d → Member d (list_in v first_objects p)
unfolding Member list_in first_objects place_in kind_in object_in room_zero player_one
first_listed v p zero s = absurd (cc (s.place))
first_listed v p (suc zero) s =
    let at : 0 ≡ p = cc (s.place) in
    let P : ℕ → Type 0 = λ z. Member 1 (list_in v first_objects z) in
    let Q : Bool → Type 0 = λ z. Member 1 (list_in z first_objects 0) in
    subst P at (subst Q s.kind (inl refl))
first_listed v p (suc (suc d)) s = absurd (cc (s.place))

first_once : (v : Bool) (p : ℕ) → IsApart (list_in v first_objects p)
unfolding IsApart Member list_in first_objects
first_once true zero = tt
first_once true (suc zero) = tt
first_once true (suc (suc p)) = tt
first_once false zero = ((λ m. elim m [ ]), tt)
first_once false (suc zero) = tt
first_once false (suc (suc p)) = tt

first_up : (d : ℕ) → d < length first_objects → Ends (length first_objects) (place_in first_objects) (Some d)
unfolding IsChain place_in object_in first_objects room_zero player_one
first_up zero lt = up_alone first_objects 0 lt refl
first_up (suc zero) lt = ends_from (length first_objects) (place_in first_objects) (Some 1) (1 ∷ 0 ∷ []) (refl, lt, (refl, omega arith, refl))
first_up (suc (suc d)) lt = absurd (omega arith)

first_kinds : (d p : ℕ) → place_in first_objects d ≡ Some p → fits_in first_objects d p ≡ true
unfolding fits_in kind_in flags_in is_vehicle_in place_in object_in first_objects room_zero player_one
first_kinds zero p h = absurd (cc (h))
first_kinds (suc zero) p h = let at : 0 ≡ p = cc (h) in let P : ℕ → Type 0 = λ z. fits_in first_objects 1 z ≡ true in subst P at refl
first_kinds (suc (suc d)) p h = absurd (cc (h))

first_placed : (d : ℕ) → place_in first_objects d ≡ None → (d ≡ 0) ⊎ (kind_in first_objects d ≡ Garbage)
unfolding place_in kind_in object_in first_objects room_zero player_one
first_placed zero h = inl refl
first_placed (suc zero) h = absurd (cc (h))
first_placed (suc (suc d)) h = inr refl

room_tied : IsTied first_objects room_zero
unfolding room_zero player_one first_objects kind_in object_in
room_tied = record { owner = (1, refl, refl); link = inl refl; home = refl }

player_tied : IsTied first_objects player_one
unfolding room_zero player_one first_objects kind_in object_in
player_tied = record { owner = (1, refl, refl); link = inl refl; home = (0, refl, refl) }

first_tied : (k : ℕ) (o : Object) → object_in first_objects k ≡ Some o → IsTied first_objects o
unfolding object_in first_objects
first_tied zero o h = let e : room_zero ≡ o = cc (h) in let P : Object → Type 0 = λ z. IsTied first_objects z in subst P e room_tied
first_tied (suc zero) o h = let e : player_one ≡ o = cc (h) in let P : Object → Type 0 = λ z. IsTied first_objects z in subst P e player_tied
first_tied (suc (suc k)) o h = absurd (cc (h))

room_alive : is_garbage room_zero.kind ≡ false
unfolding room_zero
room_alive = refl

player_alive : is_garbage player_one.kind ≡ false
unfolding player_one
player_alive = refl

first_blank : (k : ℕ) (o : Object) → object_in first_objects k ≡ Some o → is_garbage o.kind ≡ true → o ≡ garbage
unfolding object_in first_objects
first_blank zero o h g = let e : room_zero ≡ o = cc (h) in absurd (false≢true (sym room_alive ∙ ap (λ z. is_garbage z.kind) e ∙ g))
first_blank (suc zero) o h g = let e : player_one ≡ o = cc (h) in absurd (false≢true (sym player_alive ∙ ap (λ z. is_garbage z.kind) e ∙ g))
first_blank (suc (suc k)) o h g = absurd (cc (h))

pub consistent_first : IsConsistent first_objects
unfolding place_in kind_in object_in first_objects room_zero player_one
consistent_first = record {
  ordered = record {
    stands = first_stands;
    listed = first_listed;
    once = first_once;
    up = first_up;
    kinds = first_kinds;
    top = refl;
    room = refl;
    few = omega arith;
  };
  placed = first_placed;
  tied = first_tied;
  blank = first_blank;
  first = refl;
}

-- what was told of
unmarked_list : (v : Bool) (e : Entry) → entry_list v (entry_unmarked e) ≡ entry_list v e
unmarked_list true e = refl
unmarked_list false e = refl

told_by : (es : List Entry) (o : Option (ℕ × Mark)) → IsConsistent es → IsConsistent (option_map_or (λ p. changed_at p.0 entry_unmarked es) o es)
told_by es None c = c
told_by es (Some p) c = consistent_seen es (changed_at p.0 entry_unmarked es) (length_changed es p.0 entry_unmarked) (λ k. object_change p.0 k entry_unmarked es (λ e. refl)) (λ v k. list_change v p.0 k entry_unmarked es (unmarked_list v)) c

pub consistent_told : (es : List Entry) → IsConsistent es → IsConsistent (change_told es)
unfolding change_told
consistent_told es c = told_by es (marked_from 0 es) c
