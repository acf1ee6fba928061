-- A note at the present moment, and the entry behind it.
use Rattle.std.proofs.Common.{◌≡◌, ◌⊎◌, inl, inr, ℕ, ◌<◌, ◌≤◌, Bool, true, false, suc, List, [], ◌∷◌, ◌++◌, length, take, refl, ap, sym, ◌∙◌, subst, arith, Option, Some, None}
use Rattle.std.specs.Prelude.{slice_get}
use Rattle.std.specs.Option.{option_map, option_map_or}
use Rattle.std.proofs.lemmas.List.{take_all, take-append-le}
use Rattle.std.proofs.lemmas.Option.{slice_get_within, slice_get_past}
use Rattle.std.proofs.lemmas.Bool.{cases_lt}
use Rattle.muck_laws.proofs.Lists.{length_last}
use Rattle.muck_laws.proofs.Places.{got_last, got_on, got_past}
use Rattle.muck_model.specs.declared.event.Entry.{Entry}
use Rattle.muck_model.specs.declared.event.Event.{Event}
use Rattle.muck_model.specs.declared.event.Event.TheVariants.{Cut, DumpFailed}
use Rattle.muck_model.specs.declared.note.Note.{Note}
use Rattle.muck_log.specs.Store.{Chosen, store_of}
use Rattle.spec_events.specs.World.{World}
use Rattle.spec_events.specs.Logged.{is_dump, is_stored, is_failed}
use Rattle.spec_dumps.specs.Fronts.{entry_stands_at, event_at, at_cut, place_of_note, IsFront, Loads, Overflows}
use Rattle.spec_dumps.specs.Survival.{stretch_until, AllNoted, Survives, HasCause, AllCaused, IsDelta, AllDeltas, HasNumber, AllNumbered, AllRise}
use Rattle.spec_dumps.specs.inner.Holding.{IsAt, IsCounted}
use Rattle.spec_dumps.proofs.Fronts.{ArePlaced, stands_on, event_on, event_off, place_on, note_within, front_on, front_later, front_beside, loads_by}

-- the stretch of a note that was there ends where it did
pub until_on : (clock : Note → ℕ) (notes : List Note) (note : Note) (n now : ℕ) → clock note ≡ now → n < length notes → stretch_until clock (notes ++ note ∷ []) n now ≡ stretch_until clock notes n now
until_on clock notes note n now is less = elim (cases_lt (suc n) (length notes)) [
  | inl before ↦ ap (λ o. option_map_or clock o now) (got_on notes (note ∷ []) (suc n) before)
  | inr over ↦ (
      let end : suc n ≡ length notes = omega (arith, less, over) in
      ap (λ i. option_map_or clock (slice_get (notes ++ note ∷ []) i) now) end
      ∙ ap (λ o. option_map_or clock o now) (got_last notes note)
      ∙ is
      ∙ sym (ap (λ o. option_map_or clock o now) (slice_get_past notes (suc n) over))
      )
]

-- and that of the last one lasts until now
pub until_last : (clock : Note → ℕ) (notes : List Note) (note : Note) (now : ℕ) → stretch_until clock (notes ++ note ∷ []) (length notes) now ≡ now
until_last clock notes note now = ap (λ o. option_map_or clock o now) (got_past notes note)

-- it is one that was there, or the last one
pub which : (notes : List Note) (note x : Note) (n : ℕ) → slice_get (notes ++ note ∷ []) n ≡ Some x → ((n < length notes) × (slice_get notes n ≡ Some x)) ⊎ ((n ≡ length notes) × (x ≡ note))
which notes note x n is = elim (cases_lt n (length notes)) [
  | inl less ↦ inl (less, sym (got_on notes (note ∷ []) n less) ∙ is)
  | inr over ↦ (
      let end : n ≡ length notes = omega (arith, over, slice_get_within (notes ++ note ∷ []) n x is, length_last notes note) in
      inr (end, same x (sym is ∙ ap (λ i. slice_get (notes ++ note ∷ []) i) end ∙ got_last notes note))
      )
]
  where
    same : (x : Note) → Some x ≡ Some note → x ≡ note
    same x e = cc

pub place_which : (notes : List Note) (note : Note) (i place : ℕ) → place_of_note (notes ++ note ∷ []) i ≡ Some place → ((i < length notes) × (place_of_note notes i ≡ Some place)) ⊎ ((i ≡ length notes) × (place ≡ note.entries))
place_which notes note i place e = at (slice_get (notes ++ note ∷ []) i) refl e where
  same : (x : Note) (p : ℕ) → x ≡ note → Some x.entries ≡ Some p → p ≡ note.entries
  same x p is e = cc

  at : (o : Option Note) → slice_get (notes ++ note ∷ []) i ≡ o → option_map (λ (x : Note). x.entries) o ≡ Some place → ((i < length notes) × (place_of_note notes i ≡ Some place)) ⊎ ((i ≡ length notes) × (place ≡ note.entries))
  at None is e = cc
  at (Some x) is e = elim (which notes note x i is) [
    | inl p ↦ inl (p.0, ap (λ o. option_map (λ (y : Note). y.entries) o) p.1 ∙ e)
    | inr p ↦ inr (p.0, same x place p.1 e)
  ]

pub stands_within : (test : Event → Bool) (h : List Entry) (n : ℕ) → entry_stands_at test h n ≡ true → n < length h
stands_within test h n e = at (slice_get h n) refl e where
  at : (o : Option Entry) → slice_get h n ≡ o → option_map_or (λ (x : Entry). test x.event) o false ≡ true → n < length h
  at None is e = cc
  at (Some x) is e = slice_get_within h n x is

-- the last entry is one of that kind
pub stands_last : (test : Event → Bool) (h : List Entry) (e : Entry) (n : ℕ) → n ≡ length h → entry_stands_at test (h ++ e ∷ []) n ≡ test e.event
stands_last test h e n is = ap (λ i. option_map_or (λ (x : Entry). test x.event) (slice_get (h ++ e ∷ []) i) false) is ∙ ap (λ o. option_map_or (λ (x : Entry). test x.event) o false) (got_last h e)

module _ {D : Type 0} (moment : D → ℕ) (images : D → ℕ → List ℕ → Type 0) (f s : D) (w : World) (mounted : ℕ) (h : List Entry) (notes : List Note) (e : Entry) (note : Note) (here : IsAt moment f s note) (behind : note.entries ≡ length h) (some : 0 < length notes) where
  placed_noted : ArePlaced h notes → ArePlaced (h ++ e ∷ []) (notes ++ note ∷ [])
  placed_noted placed i place at = elim (place_which notes note i place at) [
    | inl p ↦ elim (placed i place p.1) [
      | inl z ↦ inl z
      | inr less ↦ inr (omega (arith, less, length_last h e))
    ]
    | inr p ↦ inr (omega (arith, p.1, behind, length_last h e))
  ]

  -- a front of before is one now, with the same notes
  pub front_noted : (n : ℕ) (x : Chosen) → ArePlaced h notes → n < length notes → IsFront w mounted h notes n x → IsFront w mounted (h ++ e ∷ []) (notes ++ note ∷ []) n x
  front_noted n x placed less p = front_beside w mounted (h ++ e ∷ []) notes (note ∷ []) n x less (front_on w mounted h (e ∷ []) notes n x placed p)

  -- and with the new one, where no dump is stored by its entry
  pub front_next : (n : ℕ) (x : Chosen) → ArePlaced h notes → suc n ≡ length notes → is_stored e.event ≡ false → IsFront w mounted h notes n x → IsFront w mounted (h ++ e ∷ []) (notes ++ note ∷ []) (length notes) x
  front_next n x placed end other p =
      front_later w mounted (h ++ e ∷ []) notes (note ∷ []) n (length notes) x (front_on w mounted h (e ∷ []) notes n x placed p) (omega (arith, end)) (omega (arith, end))
      (λ i place low high at is. absurd (no i place low at is))
    where
      no : (i place : ℕ) → n < i → place_of_note (notes ++ note ∷ []) i ≡ Some place → entry_stands_at is_stored (h ++ e ∷ []) place ≡ true → ⊥
      no i place low at is = elim (place_which notes note i place at) [
        | inl q ↦ omega (arith, q.0, low, end)
        | inr q ↦ (let so = sym (stands_last is_stored h e place (q.1 ∙ behind)) ∙ is in let not_so = other in cc)
      ]

  noted_noted : AllNoted h notes → AllNoted (h ++ e ∷ []) (notes ++ note ∷ [])
  noted_noted all place at = elim (cases_lt place (length h)) [
    | inl less ↦ (
        let known = all place (sym (stands_on is_dump h (e ∷ []) place less) ∙ at) in
        (known.0, known.1, place_on notes (note ∷ []) known.0 (within known.0 place known.2) ∙ known.2)
        )
    | inr over ↦ (
        let end : place ≡ length h = omega (arith, over, stands_within is_dump (h ++ e ∷ []) place at, length_last h e) in
        (length notes, some, ap (λ o. option_map (λ (y : Note). y.entries) o) (got_last notes note) ∙ ap Some (behind ∙ sym end))
        )
  ]
    where
      within : (i place : ℕ) → place_of_note notes i ≡ Some place → i < length notes
      within i place e = note_within notes i place e

  pub survives_noted : Survives moment images f s w mounted h notes →
      ((c d : List ℕ) → images f (moment f) c → images s (moment s) d → Loads w mounted (h ++ e ∷ []) (notes ++ note ∷ []) (length notes) (store_of c d)) →
      Survives moment images f s w mounted (h ++ e ∷ []) (notes ++ note ∷ [])
  survives_noted v now = record {
    each = λ n x t u c d is t_low t_high u_low u_high left_c left_d. elim (which notes note x n is) [
      | inl p ↦ loads_by w w mounted h (h ++ e ∷ []) notes (notes ++ note ∷ []) n n (store_of c d) (λ y. front_noted n y v.placed p.0)
          (v.each n x t u c d p.1 t_low (omega (arith, t_high, until_on (λ (y : Note). y.first_moment) notes note n (moment f) here.0 p.0)) u_low (omega (arith, u_high, until_on (λ (y : Note). y.second_moment) notes note n (moment s) here.1 p.0)) left_c left_d)
      | inr p ↦ (
          let first_high : t ≤ moment f = omega (arith, t_high, ap (λ i. stretch_until (λ (y : Note). y.first_moment) (notes ++ note ∷ []) i (moment f)) p.0, until_last (λ (y : Note). y.first_moment) notes note (moment f)) in
          let second_high : u ≤ moment s = omega (arith, u_high, ap (λ i. stretch_until (λ (y : Note). y.second_moment) (notes ++ note ∷ []) i (moment s)) p.0, until_last (λ (y : Note). y.second_moment) notes note (moment s)) in
          let t_is : t ≡ moment f = omega (arith, t_low, first_high, ap (λ (y : Note). y.first_moment) p.1, here.0) in
          let u_is : u ≡ moment s = omega (arith, u_low, second_high, ap (λ (y : Note). y.second_moment) p.1, here.1) in
          subst (λ i. Loads w mounted (h ++ e ∷ []) (notes ++ note ∷ []) i (store_of c d)) (sym p.0) (now c d (subst (λ i. images f i c) t_is left_c) (subst (λ i. images s i d) u_is left_d))
          )
    ];
    rises = λ n x is. elim (which notes note x n is) [
      | inl p ↦ (
          let known = v.rises n x p.1 in (
            omega (arith, known.0, until_on (λ (y : Note). y.first_moment) notes note n (moment f) here.0 p.0),
            omega (arith, known.1, until_on (λ (y : Note). y.second_moment) notes note n (moment s) here.1 p.0),
          )
          )
      | inr p ↦ (
        omega (arith, here.0, ap (λ (y : Note). y.first_moment) p.1, ap (λ i. stretch_until (λ (y : Note). y.first_moment) (notes ++ note ∷ []) i (moment f)) p.0, until_last (λ (y : Note). y.first_moment) notes note (moment f)),
        omega (arith, here.1, ap (λ (y : Note). y.second_moment) p.1, ap (λ i. stretch_until (λ (y : Note). y.second_moment) (notes ++ note ∷ []) i (moment s)) p.0, until_last (λ (y : Note). y.second_moment) notes note (moment s)),
      )
    ];
    past = λ n x is. elim (which notes note x n is) [
      | inl p ↦ v.past n x p.1
      | inr p ↦ (omega (arith, here.0, ap (λ (y : Note). y.first_moment) p.1), omega (arith, here.1, ap (λ (y : Note). y.second_moment) p.1))
    ];
    noted = noted_noted v.noted;
    placed = placed_noted v.placed;
  }

  -- an entry that has a note but the first is one of those that were there
  within_noted : ArePlaced h notes → (n : ℕ) (x : Note) → slice_get notes (suc n) ≡ Some x → x.entries < length h
  within_noted placed n x is = elim (placed (suc n) x.entries (ap (λ o. option_map (λ (y : Note). y.entries) o) is)) [ inl z ↦ absurd (omega (arith, z.0)) | inr it ↦ it ]

  front_of : (n : ℕ) → n < length h → take n (h ++ e ∷ []) ≡ take n h
  front_of n less = take-append-le n h (e ∷ []) (omega (arith, less))

  -- the note that comes has all of them before it
  front_whole : take note.entries (h ++ e ∷ []) ≡ h
  front_whole = take-append-le note.entries h (e ∷ []) (omega (arith, behind)) ∙ take_all note.entries h (omega (arith, behind))

  pub caused_noted : ArePlaced h notes → AllCaused images f s w mounted h notes →
      ((n : ℕ) (before : Note) → suc (suc n) ≡ length notes → slice_get notes n ≡ Some before → is_failed e.event ≡ true → HasCause images f s w mounted (h ++ e ∷ []) (notes ++ note ∷ []) n note before) →
      AllCaused images f s w mounted (h ++ e ∷ []) (notes ++ note ∷ [])
  caused_noted placed v why n x before is earlier at = elim (which notes note x (suc (suc n)) is) [
    | inl p ↦ old p.0 p.1
    | inr p ↦ (
        let early : n < length notes = omega (arith, p.0) in
        let known = why n before p.0 (sym (got_on notes (note ∷ []) n early) ∙ earlier) (sym (stands_last is_failed h e x.entries (ap (λ (y : Note). y.entries) p.1 ∙ behind)) ∙ at) in
        subst (λ y. HasCause images f s w mounted (h ++ e ∷ []) (notes ++ note ∷ []) n y before) (sym p.1) known
        )
  ]
    where
      old : suc (suc n) < length notes → slice_get notes (suc (suc n)) ≡ Some x → HasCause images f s w mounted (h ++ e ∷ []) (notes ++ note ∷ []) n x before
      old less there =
          let within = within_noted placed (suc n) x there in
          let known = v n x before there (sym (got_on notes (note ∷ []) n (omega (arith, less))) ∙ earlier) (sym (stands_on is_failed h (e ∷ []) x.entries within) ∙ at) in
          record {
            cause = elim known.cause [
              | inl rose ↦ inl rose
              | inr full ↦ inr (full.0, full.1, front_noted (suc n) full.0 placed (omega (arith, less)) full.2, subst (λ y. Overflows full.0 (at_cut w y)) (sym (front_of x.entries within)) full.3)
            ];
          }

  abbrev DeltaNow : ℕ → Note → Note → List Entry → Type 0
  DeltaNow n before x k = IsDelta images f s w mounted (h ++ e ∷ []) (notes ++ note ∷ []) n before x (at_cut w k)

  pub deltas_noted : ArePlaced h notes → AllDeltas images f s w mounted h notes →
      ((n : ℕ) (before : Note) → suc n ≡ length notes → slice_get notes n ≡ Some before → is_stored e.event ≡ true → IsDelta images f s w mounted (h ++ e ∷ []) (notes ++ note ∷ []) n before note (at_cut w h)) →
      AllDeltas images f s w mounted (h ++ e ∷ []) (notes ++ note ∷ [])
  deltas_noted placed v wrote n before x earlier is at = elim (which notes note x (suc n) is) [
    | inl p ↦ old p.0 p.1
    | inr p ↦ (
        let early : n < length notes = omega (arith, p.0) in
        let known = wrote n before p.0 (sym (got_on notes (note ∷ []) n early) ∙ earlier) (sym (stands_last is_stored h e x.entries (ap (λ (y : Note). y.entries) p.1 ∙ behind)) ∙ at) in
        subst (λ (y : Note). DeltaNow n before y (take y.entries (h ++ e ∷ []))) (sym p.1) (subst (λ k. DeltaNow n before note k) (sym front_whole) known)
        )
  ]
    where
      old : suc n < length notes → slice_get notes (suc n) ≡ Some x → DeltaNow n before x (take x.entries (h ++ e ∷ []))
      old less there =
          let within = within_noted placed n x there in
          let known = v n before x (sym (got_on notes (note ∷ []) n (omega (arith, less))) ∙ earlier) there (sym (stands_on is_stored h (e ∷ []) x.entries within) ∙ at) in
          subst (λ k. DeltaNow n before x k) (sym (front_of x.entries within))
          (record { base = known.base; held = known.held; front = front_noted n known.base placed (omega (arith, less)) known.front; fits = known.fits; wrote = known.wrote })

  -- what gives a dump its number gives it still
  number_noted : (n k : ℕ) (x : Note) → HasNumber images f s h notes n x k → HasNumber images f s (h ++ e ∷ []) (notes ++ note ∷ []) n x k
  number_noted n k x (inl held) = inl held
  number_noted n k x (inr failed) = inr (failed.0, got_on notes (note ∷ []) n (slice_get_within notes n failed.0 failed.1) ∙ failed.1, event_on h (e ∷ []) failed.0.entries (DumpFailed k) failed.2, failed.3)

  pub numbered_noted : ArePlaced h notes → AllNumbered images f s h notes → ((n k : ℕ) → suc n ≡ length notes → e.event ≡ Cut k → HasNumber images f s h notes n note k) → AllNumbered images f s (h ++ e ∷ []) (notes ++ note ∷ [])
  numbered_noted placed v now n k x is at = elim (which notes note x (suc n) is) [
    | inl p ↦ number_noted n k x (v n k x p.1 (sym (event_off h (e ∷ []) x.entries (within_noted placed n x p.1)) ∙ at))
    | inr p ↦ (
        let cuts = same (sym (last_is x.entries (ap (λ (y : Note). y.entries) p.1 ∙ behind)) ∙ at) in
        number_noted n k x (subst (λ y. HasNumber images f s h notes n y k) (sym p.1) (now n k p.0 cuts))
        )
  ]
    where
      last_is : (place : ℕ) → place ≡ length h → event_at (h ++ e ∷ []) place ≡ Some e.event
      last_is place end = ap (event_at (h ++ e ∷ [])) end ∙ ap (option_map (λ (y : Entry). y.event)) (got_last h e)

      same : Some e.event ≡ Some (Cut k) → e.event ≡ Cut k
      same q = cc

  pub rise_noted : (faults : D → ℕ) → AllRise faults f s notes → IsCounted faults f s note → AllRise faults f s (notes ++ note ∷ [])
  rise_noted faults v count = record {
    each = λ n before x earlier is. elim (which notes note x (suc n) is) [
      | inl p ↦ v.each n before x (sym (got_on notes (note ∷ []) n (omega (arith, p.0))) ∙ earlier) p.1
      | inr p ↦ (
          let known = v.past n before (sym (got_on notes (note ∷ []) n (omega (arith, p.0))) ∙ earlier) in (
            omega (arith, known.0, count.0, ap (λ (y : Note). y.first_faults) p.1),
            omega (arith, known.1, count.1, ap (λ (y : Note). y.second_faults) p.1),
          )
          )
    ];
    past = λ n x is. elim (which notes note x n is) [
      | inl p ↦ v.past n x p.1
      | inr p ↦ (omega (arith, count.0, ap (λ (y : Note). y.first_faults) p.1), omega (arith, count.1, ap (λ (y : Note). y.second_faults) p.1))
    ];
  }
