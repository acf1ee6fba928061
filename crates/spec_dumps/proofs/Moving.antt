-- A call moves the disks, right behind a note.
use Rattle.std.proofs.Common.{◌≡◌, inl, inr, ℕ, ◌<◌, ◌≤◌, suc, List, length, refl, ap, sym, ◌∙◌, subst, arith, Option, Some, None}
use Rattle.std.specs.Prelude.{slice_get}
use Rattle.std.specs.Option.{option_map_or}
use Rattle.std.proofs.lemmas.Option.{slice_get_within, slice_get_past, slice_get-get_or}
use Rattle.std.proofs.lemmas.Bool.{cases_lt}
use Rattle.muck_model.specs.declared.event.Entry.{Entry}
use Rattle.muck_model.specs.declared.note.Note.{Note}
use Rattle.muck_log.specs.Store.{Chosen, LogState, IsMounted, LeavesOnly, LeavesBoth, store_of}
use Rattle.spec_events.specs.World.{World}
use Rattle.spec_dumps.specs.Fronts.{Loads}
use Rattle.spec_dumps.specs.Survival.{stretch_until, Survives, HoldsAt, HoldsBy, AllCaused, AllDeltas, AllNumbered, AllRise, IsSafe}
use Rattle.spec_dumps.specs.inner.Holding.{IsAt}

-- The past stays, and with it what both disks held then.

pub record SamePast {D : Type 0} (moment : D → ℕ) (images : D → ℕ → List ℕ → Type 0) (old new : D) : Type 0 where
  pub kept : (t : ℕ) (c : List ℕ) → t ≤ moment old → images new t c → images old t c
  pub stays : (t : ℕ) (c : List ℕ) → t ≤ moment old → images old t c → images new t c

module _ {D : Type 0} (moment : D → ℕ) (images : D → ℕ → List ℕ → Type 0) (f s f' s' : D) (a : SamePast moment images f f') (b : SamePast moment images s s') where
  pub held_still : (t u : ℕ) (x : Chosen) → t ≤ moment f → u ≤ moment s → HoldsAt images f s t u x → HoldsAt images f' s' t u x
  held_still t u x t_past u_past v = record {
    each = λ c d left_c left_d. v.each c d (a.kept t c t_past left_c) (b.kept u d u_past left_d);
    first_left = (v.first_left.0, a.stays t v.first_left.0 t_past v.first_left.1);
    second_left = (v.second_left.0, b.stays u v.second_left.0 u_past v.second_left.1);
  }

  module _ (w : World) (mounted : ℕ) (h : List Entry) (notes : List Note) (past : (n : ℕ) (x : Note) → slice_get notes n ≡ Some x → (x.first_moment ≤ moment f) × (x.second_moment ≤ moment s)) where
    by_note : (n : ℕ) (note : Note) (x : Chosen) → slice_get notes n ≡ Some note → HoldsBy images f s note x → HoldsBy images f' s' note x
    by_note n note x is v = held_still note.first_moment note.second_moment x (past n note is).0 (past n note is).1 v

    caused_still : AllCaused images f s w mounted h notes → AllCaused images f' s' w mounted h notes
    caused_still v n note before is earlier at = record {
      cause = elim (v n note before is earlier at).cause [
        | inl rose ↦ inl rose
        | inr full ↦ inr (full.0, by_note (suc (suc n)) note full.0 is full.1, full.2, full.3)
      ];
    }

    deltas_still : AllDeltas images f s w mounted h notes → AllDeltas images f' s' w mounted h notes
    deltas_still v n before note earlier is at =
        let known = v n before note earlier is at in
        record { base = known.base; held = by_note n before known.base earlier known.held; front = known.front; fits = known.fits; wrote = by_note (suc n) note _ is known.wrote }

    numbered_still : AllNumbered images f s h notes → AllNumbered images f' s' h notes
    numbered_still v n k note is at = elim (v n k note is at) [
      | inl held ↦ inl (held.0, by_note (suc n) note held.0 is held.1, held.2)
      | inr failed ↦ inr failed
    ]

    rise_still : (faults : D → ℕ) → faults f ≤ faults f' → faults s ≤ faults s' → AllRise faults f s notes → AllRise faults f' s' notes
    rise_still faults first_later second_later v = record { each = v.each; past = λ n x is. (omega (arith, (v.past n x is).0, first_later), omega (arith, (v.past n x is).1, second_later)) }

    pub safe_still : (faults : D → ℕ) → faults f ≤ faults f' → faults s ≤ faults s' → Survives moment images f' s' w mounted h notes → IsSafe moment images faults f s w mounted h notes → IsSafe moment images faults f' s' w mounted h notes
    safe_still faults first_later second_later survives v = record {
      survives = survives;
      caused = caused_still v.caused;
      deltas = deltas_still v.deltas;
      numbered = numbered_still v.numbered;
      rise = rise_still faults first_later second_later v.rise;
    }

-- both disks hold the store that was mounted, as long as nothing moves them
pub held_now : {D : Type 0} (seen : D → List ℕ) (moment : D → ℕ) (images : D → ℕ → List ℕ → Type 0) (log : LogState) (f s : D) → IsMounted seen moment images log f s → images f (moment f) (seen f) → images s (moment s) (seen s) →
    HoldsAt images f s (moment f) (moment s) log.chosen
held_now seen moment images log f s m left_f left_s = record {
  each = λ c d left_c left_d. ap (λ x. store_of x d) (m.first_durable c left_c) ∙ ap (store_of (seen f)) (m.second_durable d left_d) ∙ m.load;
  first_left = (seen f, left_f);
  second_left = (seen s, left_s);
}

-- as a note has it
pub held_noted : {D : Type 0} (moment : D → ℕ) (images : D → ℕ → List ℕ → Type 0) (f s : D) (note : Note) (x : Chosen) → IsAt moment f s note → HoldsAt images f s (moment f) (moment s) x → HoldsBy images f s note x
held_noted moment images f s note x here v =
    subst (λ t. HoldsAt images f s t note.second_moment x) (sym here.0) (subst (λ u. HoldsAt images f s (moment f) u x) (sym here.1) v)

-- the stretch of a note that isn't the last one doesn't last until now
until_then : (clock : Note → ℕ) (notes : List Note) (n now now' : ℕ) → suc n < length notes → stretch_until clock notes n now ≡ stretch_until clock notes n now'
until_then clock notes n now now' less = at (slice_get notes (suc n)) refl where
  at : (o : Option Note) → slice_get notes (suc n) ≡ o → option_map_or clock (slice_get notes (suc n)) now ≡ option_map_or clock (slice_get notes (suc n)) now'
  at (Some x) is = ap (λ o. option_map_or clock o now) is ∙ sym (ap (λ o. option_map_or clock o now') is)
  at None is = let there = slice_get-get_or notes (suc n) (record { entries = 0; first_moment = 0; second_moment = 0; first_faults = 0; second_faults = 0 }) less in absurd (none (sym there ∙ is))
    where
      none : {x : Note} → Some x ≡ None → ⊥
      none e = cc

pub until_over : (clock : Note → ℕ) (notes : List Note) (n now : ℕ) → length notes ≤ suc n → stretch_until clock notes n now ≡ now
until_over clock notes n now over = ap (λ o. option_map_or clock o now) (slice_get_past notes (suc n) over)

module _ {D : Type 0} (moment : D → ℕ) (images : D → ℕ → List ℕ → Type 0) (f s f' s' : D) (w : World) (mounted : ℕ) (h : List Entry) (notes : List Note) (last : ℕ) (note : Note) (is : slice_get notes last ≡ Some note) (end : length notes ≡ suc last)
    (here : IsAt moment f s note) (P : List ℕ → List ℕ → Type 0) (leaves : LeavesBoth moment images f s f' s' P) (loads : (c d : List ℕ) → P c d → Loads w mounted h notes last (store_of c d)) where
  -- the end of a stretch that isn't the last one is past
  first_then : (v : Survives moment images f s w mounted h notes) (n : ℕ) → suc n < length notes → stretch_until (λ (x : Note). x.first_moment) notes n (moment f) ≤ moment f
  first_then v n less = at (slice_get notes (suc n)) refl where
    at : (o : Option Note) → slice_get notes (suc n) ≡ o → stretch_until (λ (x : Note). x.first_moment) notes n (moment f) ≤ moment f
    at (Some x) there = omega (arith, (v.past (suc n) x there).0, ap (λ o. option_map_or (λ (x : Note). x.first_moment) o (moment f)) there)
    at None there = omega (arith, ap (λ o. option_map_or (λ (x : Note). x.first_moment) o (moment f)) there)

  second_then : (v : Survives moment images f s w mounted h notes) (n : ℕ) → suc n < length notes → stretch_until (λ (x : Note). x.second_moment) notes n (moment s) ≤ moment s
  second_then v n less = at (slice_get notes (suc n)) refl where
    at : (o : Option Note) → slice_get notes (suc n) ≡ o → stretch_until (λ (x : Note). x.second_moment) notes n (moment s) ≤ moment s
    at (Some x) there = omega (arith, (v.past (suc n) x there).1, ap (λ o. option_map_or (λ (x : Note). x.second_moment) o (moment s)) there)
    at None there = omega (arith, ap (λ o. option_map_or (λ (x : Note). x.second_moment) o (moment s)) there)

  -- it is the last one
  only : (n : ℕ) (x : Note) → slice_get notes n ≡ Some x → length notes ≤ suc n → (n ≡ last) × (x ≡ note)
  only n x there over =
      let at : n ≡ last = omega (arith, over, slice_get_within notes n x there, end) in
      (at, same x (sym there ∙ ap (slice_get notes) at ∙ is))
    where
      same : (x : Note) → Some x ≡ Some note → x ≡ note
      same x e = cc

  survives_moved : Survives moment images f s w mounted h notes → Survives moment images f' s' w mounted h notes
  survives_moved v = record {
    each = λ n x t u c d there t_low t_high u_low u_high left_c left_d. elim (cases_lt (suc n) (length notes)) [
      | inl less ↦ (
          let t_then : t ≤ stretch_until (λ (y : Note). y.first_moment) notes n (moment f) = omega (arith, t_high, until_then (λ (y : Note). y.first_moment) notes n (moment f) (moment f') less) in
          let u_then : u ≤ stretch_until (λ (y : Note). y.second_moment) notes n (moment s) = omega (arith, u_high, until_then (λ (y : Note). y.second_moment) notes n (moment s) (moment s') less) in
          v.each n x t u c d there t_low t_then u_low u_then
          (leaves.first_kept t c (omega (arith, t_then, first_then v n less)) left_c) (leaves.second_kept u d (omega (arith, u_then, second_then v n less)) left_d)
          )
      | inr over ↦ (
          let it = only n x there over in
          let t_from : moment f ≤ t = omega (arith, t_low, ap (λ (y : Note). y.first_moment) it.1, here.0) in
          let u_from : moment s ≤ u = omega (arith, u_low, ap (λ (y : Note). y.second_moment) it.1, here.1) in
          let t_to : t ≤ moment f' = omega (arith, t_high, until_over (λ (y : Note). y.first_moment) notes n (moment f') over) in
          let u_to : u ≤ moment s' = omega (arith, u_high, until_over (λ (y : Note). y.second_moment) notes n (moment s') over) in
          subst (λ i. Loads w mounted h notes i (store_of c d)) (sym it.0) (loads c d (leaves.each t u c d t_from t_to u_from u_to left_c left_d))
          )
    ];
    rises = λ n x there. elim (cases_lt (suc n) (length notes)) [
      | inl less ↦ (
        omega (arith, (v.rises n x there).0, until_then (λ (y : Note). y.first_moment) notes n (moment f) (moment f') less),
        omega (arith, (v.rises n x there).1, until_then (λ (y : Note). y.second_moment) notes n (moment s) (moment s') less),
      )
      | inr over ↦ (
        omega (arith, (v.past n x there).0, leaves.first_later, until_over (λ (y : Note). y.first_moment) notes n (moment f') over),
        omega (arith, (v.past n x there).1, leaves.second_later, until_over (λ (y : Note). y.second_moment) notes n (moment s') over),
      )
    ];
    past = λ n x there. (omega (arith, (v.past n x there).0, leaves.first_later), omega (arith, (v.past n x there).1, leaves.second_later));
    noted = v.noted;
    placed = v.placed;
  }

  pub first_same : SamePast moment images f f'
  first_same = record { kept = leaves.first_kept; stays = leaves.first_stays }

  pub second_same : SamePast moment images s s'
  second_same = record { kept = leaves.second_kept; stays = leaves.second_stays }

  pub safe_moved : (faults : D → ℕ) → faults f ≤ faults f' → faults s ≤ faults s' → IsSafe moment images faults f s w mounted h notes → IsSafe moment images faults f' s' w mounted h notes
  safe_moved faults first_later second_later v = safe_still moment images f s f' s' first_same second_same w mounted h notes v.survives.past faults first_later second_later (survives_moved v.survives) v

-- what a crash leaves now loads so
pub loads_now : {D : Type 0} (moment : D → ℕ) (images : D → ℕ → List ℕ → Type 0) (f s : D) (w : World) (mounted : ℕ) (h : List Entry) (notes : List Note) (last : ℕ) (note : Note) → slice_get notes last ≡ Some note → length notes ≡ suc last →
    Survives moment images f s w mounted h notes → (c d : List ℕ) → images f (moment f) c → images s (moment s) d → Loads w mounted h notes last (store_of c d)
loads_now moment images f s w mounted h notes last note is end v c d left_c left_d =
    let over : length notes ≤ suc last = omega (arith, end) in
    v.each last note (moment f) (moment s) c d is (v.past last note is).0 (omega (arith, until_over (λ (y : Note). y.first_moment) notes last (moment f) over))
    (v.past last note is).1 (omega (arith, until_over (λ (y : Note). y.second_moment) notes last (moment s) over)) left_c left_d

-- Calls that leave only what could be left before, whenever the last note was.

until_by : (clock : Note → ℕ) (notes : List Note) (n now : ℕ) → ((x : Note) → slice_get notes (suc n) ≡ Some x → clock x ≤ now) → stretch_until clock notes n now ≤ now
until_by clock notes n now past = at (slice_get notes (suc n)) refl where
  at : (o : Option Note) → slice_get notes (suc n) ≡ o → stretch_until clock notes n now ≤ now
  at (Some x) there = omega (arith, past x there, ap (λ o. option_map_or clock o now) there)
  at None there = omega (arith, ap (λ o. option_map_or clock o now) there)

module _ {D : Type 0} (moment : D → ℕ) (images : D → ℕ → List ℕ → Type 0) (f f' : D) (clock : Note → ℕ) (notes : List Note) (a : LeavesOnly moment images f f' (images f (moment f))) (past : (n : ℕ) (x : Note) → slice_get notes n ≡ Some x → clock x ≤ moment f) where
  -- what a crash leaves at a moment of a stretch was left at one of it before
  left_before : (n low t : ℕ) (c : List ℕ) → low ≤ t → low ≤ moment f → t ≤ stretch_until clock notes n (moment f') → images f' t c → (t' : ℕ) × (low ≤ t') × (t' ≤ stretch_until clock notes n (moment f)) × images f t' c
  left_before n low t c ge over_low le left = elim (cases_lt (suc n) (length notes)) [
    | inl less ↦ (
        let same = until_then clock notes n (moment f) (moment f') less in
        let then : stretch_until clock notes n (moment f) ≤ moment f = until_by clock notes n (moment f) (past (suc n)) in
        (t, ge, omega (arith, le, same), a.kept t c (omega (arith, le, same, then)) left)
        )
    | inr over ↦ elim (cases_lt (moment f) t) [
      | inl new ↦ (moment f, over_low, omega (arith, until_over clock notes n (moment f) over), a.each t c (omega (arith, new)) (omega (arith, le, until_over clock notes n (moment f') over)) left)
      | inr old ↦ (t, ge, omega (arith, old, until_over clock notes n (moment f) over), a.kept t c old left)
    ]
  ]

  rises_still : (n : ℕ) (x : Note) → slice_get notes n ≡ Some x → clock x ≤ stretch_until clock notes n (moment f) → clock x ≤ stretch_until clock notes n (moment f')
  rises_still n x there le = elim (cases_lt (suc n) (length notes)) [
    | inl less ↦ omega (arith, le, until_then clock notes n (moment f) (moment f') less)
    | inr over ↦ omega (arith, past n x there, a.later, until_over clock notes n (moment f') over)
  ]

survives_kept : {D : Type 0} (moment : D → ℕ) (images : D → ℕ → List ℕ → Type 0) (f s f' s' : D) (w : World) (mounted : ℕ) (h : List Entry) (notes : List Note) →
    LeavesOnly moment images f f' (images f (moment f)) → LeavesOnly moment images s s' (images s (moment s)) → Survives moment images f s w mounted h notes → Survives moment images f' s' w mounted h notes
survives_kept moment images f s f' s' w mounted h notes a b v = record {
  each = λ n x t u c d there t_low t_high u_low u_high left_c left_d.
      let first = left_before moment images f f' (λ (y : Note). y.first_moment) notes a first_past n x.first_moment t c t_low (v.past n x there).0 t_high left_c in
      let second = left_before moment images s s' (λ (y : Note). y.second_moment) notes b second_past n x.second_moment u d u_low (v.past n x there).1 u_high left_d in
      v.each n x first.0 second.0 c d there first.1 first.2 second.1 second.2 first.3 second.3;
  rises = λ n x there. (
    rises_still moment images f f' (λ (y : Note). y.first_moment) notes a first_past n x there (v.rises n x there).0,
    rises_still moment images s s' (λ (y : Note). y.second_moment) notes b second_past n x there (v.rises n x there).1,
  );
  past = λ n x there. (omega (arith, (v.past n x there).0, a.later), omega (arith, (v.past n x there).1, b.later));
  noted = v.noted;
  placed = v.placed;
}
  where
    first_past : (n : ℕ) (x : Note) → slice_get notes n ≡ Some x → x.first_moment ≤ moment f
    first_past n x there = (v.past n x there).0

    second_past : (n : ℕ) (x : Note) → slice_get notes n ≡ Some x → x.second_moment ≤ moment s
    second_past n x there = (v.past n x there).1

pub safe_kept : {D : Type 0} (moment : D → ℕ) (images : D → ℕ → List ℕ → Type 0) (faults : D → ℕ) (f s f' s' : D) (w : World) (mounted : ℕ) (h : List Entry) (notes : List Note) →
    LeavesOnly moment images f f' (images f (moment f)) → LeavesOnly moment images s s' (images s (moment s)) → faults f ≤ faults f' → faults s ≤ faults s' → IsSafe moment images faults f s w mounted h notes →
    IsSafe moment images faults f' s' w mounted h notes
safe_kept moment images faults f s f' s' w mounted h notes a b first_later second_later v =
    safe_still moment images f s f' s' (record { kept = a.kept; stays = a.stays }) (record { kept = b.kept; stays = b.stays }) w mounted h notes v.survives.past faults first_later second_later
    (survives_kept moment images f s f' s' w mounted h notes a b v.survives) v
