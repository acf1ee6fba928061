-- Histories that go on without a dump.
use Rattle.std.proofs.Common.{◌≡◌, inl, inr, ℕ, ◌<◌, ◌≤◌, Bool, true, false, ◌||◌, zero, suc, List, [], ◌∷◌, ◌++◌, length, take, refl, ap, sym, ◌∙◌, subst, arith, Option, Some, None}
use Rattle.std.specs.Prelude.{slice_get}
use Rattle.std.specs.List.{list_any}
use Rattle.std.specs.Option.{option_map, option_map_or}
use Rattle.std.proofs.lemmas.List.{length-append, take-append-le}
use Rattle.std.proofs.lemmas.Bool.{cases_lt}
use Rattle.muck_model.specs.declared.event.Entry.{Entry}
use Rattle.muck_model.specs.declared.event.Event.{Event}
use Rattle.muck_model.specs.declared.event.Event.TheVariants.{Stored, DumpFailed}
use Rattle.muck_model.specs.declared.note.Note.{Note}
use Rattle.spec_live.specs.Consistent.{IsConsistent}
use Rattle.muck_log.specs.Store.{Chosen, LogState, store_of}
use Rattle.spec_events.specs.World.{World}
use Rattle.spec_events.specs.Histories.{History, entered, Grew}
use Rattle.spec_events.proofs.Runs.{grew_nothing, grew_one, grew_on}
use Rattle.spec_events.specs.Logged.{is_dump, is_stored, is_failed}
use Rattle.spec_dumps.specs.Fronts.{entry_stands_at, event_at, at_cut, last_cut, batch_number_at, IsFront, Fits, Overflows, dumped_on}
use Rattle.spec_dumps.specs.Survival.{Survives, AllCaused, IsDelta, AllDeltas, AllNumbered, IsSafe}
use Rattle.spec_dumps.specs.inner.Holding.{Quietly, IsUsable, Keeps, Rests, FailedLast, IsDumped, RisesInDump, OverflowsAtCut}
use Rattle.spec_dumps.proofs.Fronts.{ArePlaced, stands_on, event_on, event_off, front_on, loads_by, last_cut_quiet, last_cut_short, at_cut_quiet, number_on}

any_append : (es fs : List Entry) → list_any (λ (e : Entry). is_dump e.event) es ≡ false → list_any (λ (e : Entry). is_dump e.event) fs ≡ false → list_any (λ (e : Entry). is_dump e.event) (es ++ fs) ≡ false
any_append [] fs a b = b
any_append (e ∷ es) fs a b = first (is_dump e.event) a (λ p. any_append es fs p b) where
  first : (x : Bool) → (x || list_any (λ (e : Entry). is_dump e.event) es) ≡ false → (list_any (λ (e : Entry). is_dump e.event) es ≡ false → list_any (λ (e : Entry). is_dump e.event) (es ++ fs) ≡ false) →
      (x || list_any (λ (e : Entry). is_dump e.event) (es ++ fs)) ≡ false
  first true p f = cc
  first false p f = f p

pub quiet_nothing : (h k : History) → k ≡ h → Quietly h k
quiet_nothing h k is = record { entries = []; grew = grew_nothing h k is; none = refl }

pub quiet_one : (h k : History) (e : Entry) → is_dump e.event ≡ false → k ≡ entered h e → Quietly h k
quiet_one h k e other is = record { entries = e ∷ []; grew = grew_one h k e is; none = ap (λ x. x || false) other }

pub quiet_grew : (h k : History) (es : List Entry) → list_any (λ (e : Entry). is_dump e.event) es ≡ false → Grew h k es → Quietly h k
quiet_grew h k es none g = record { entries = es; grew = g; none = none }

pub quiet_on : (h k m : History) → Quietly h k → Quietly k m → Quietly h m
quiet_on h k m p q = record {
  entries = p.entries ++ q.entries;
  grew = grew_on h k m p.entries q.entries p.grew q.grew;
  none = any_append p.entries q.entries p.none q.none;
}

-- Where no entry is one of a dump, none stands behind the others.

none_at : (es : List Entry) (n : ℕ) → list_any (λ (e : Entry). is_dump e.event) es ≡ false → entry_stands_at is_dump es n ≡ false
none_at [] n p = refl
none_at (e ∷ es) n p = at (is_dump e.event) refl p n (λ q i. none_at es i q) where
  at : (x : Bool) → is_dump e.event ≡ x → (x || list_any (λ (e : Entry). is_dump e.event) es) ≡ false → (n : ℕ) → (list_any (λ (e : Entry). is_dump e.event) es ≡ false → (i : ℕ) → entry_stands_at is_dump es i ≡ false) → entry_stands_at is_dump (e ∷ es) n ≡ false
  at true is q n f = cc
  at false is q zero f = is
  at false is q (suc n) f = f q n

none_behind : (h es : List Entry) (n : ℕ) → list_any (λ (e : Entry). is_dump e.event) es ≡ false → length h ≤ n → entry_stands_at is_dump (h ++ es) n ≡ false
none_behind [] es n p le = none_at es n p
none_behind (e ∷ h) es zero p le = absurd (omega (arith, le))
none_behind (e ∷ h) es (suc n) p le = none_behind h es n p (omega (arith, le))

stored_dump : (event : Event) → is_stored event ≡ true → is_dump event ≡ true
stored_dump (Stored k) e = refl
stored_dump event e = cc

failed_dump : (event : Event) → is_failed event ≡ true → is_dump event ≡ true
failed_dump (DumpFailed k) e = refl
failed_dump event e = cc

pub stands_dump : (test : Event → Bool) (h : List Entry) (n : ℕ) → ((event : Event) → test event ≡ true → is_dump event ≡ true) → entry_stands_at test h n ≡ true → entry_stands_at is_dump h n ≡ true
stands_dump test h n f e = at (slice_get h n) e where
  at : (o : Option Entry) → option_map_or (λ (e : Entry). test e.event) o false ≡ true → option_map_or (λ (e : Entry). is_dump e.event) o false ≡ true
  at None e = cc
  at (Some x) e = f x.event e

-- an entry of a dump stands among the first ones
within : (test : Event → Bool) (h es : List Entry) (n : ℕ) → ((event : Event) → test event ≡ true → is_dump event ≡ true) → list_any (λ (e : Entry). is_dump e.event) es ≡ false → entry_stands_at test (h ++ es) n ≡ true → n < length h
within test h es n f none e = elim (cases_lt n (length h)) [
  | inl less ↦ less
  | inr le ↦ (let so = stands_dump test (h ++ es) n f e in let no = none_behind h es n none le in cc)
]

same_dump : (event : Event) → is_dump event ≡ true → is_dump event ≡ true
same_dump event e = e

module _ {D : Type 0} (moment : D → ℕ) (images : D → ℕ → List ℕ → Type 0) (f s : D) (w : World) (mounted : ℕ) (notes : List Note) where
  survives_on : (h es : List Entry) → list_any (λ (e : Entry). is_dump e.event) es ≡ false → Survives moment images f s w mounted h notes → Survives moment images f s w mounted (h ++ es) notes
  survives_on h es none v = record {
    each = λ n note t u c d is t_low t_high u_low u_high left_c left_d.
        loads_by w w mounted h (h ++ es) notes notes n n (store_of c d) (λ x. front_on w mounted h es notes n x v.placed) (v.each n note t u c d is t_low t_high u_low u_high left_c left_d);
    rises = v.rises;
    past = v.past;
    noted = λ place at. let less = within is_dump h es place same_dump none at in v.noted place (sym (stands_on is_dump h es place less) ∙ at);
    placed = λ i place at. elim (v.placed i place at) [
      | inl z ↦ inl z
      | inr less ↦ inr (omega (arith, less, length-append h es))
    ];
  }

  caused_on : (h es : List Entry) → list_any (λ (e : Entry). is_dump e.event) es ≡ false → ArePlaced h notes → AllCaused images f s w mounted h notes → AllCaused images f s w mounted (h ++ es) notes
  caused_on h es none placed v n note before is earlier at =
      let less = within is_failed h es note.entries failed_dump none at in
      let known = v n note before is earlier (sym (stands_on is_failed h es note.entries less) ∙ at) in
      let front : take note.entries (h ++ es) ≡ take note.entries h = take-append-le note.entries h es (omega (arith, less)) in
      record {
        cause = elim known.cause [
          | inl rose ↦ inl rose
          | inr full ↦ inr (full.0, full.1, front_on w mounted h es notes (suc n) full.0 placed full.2, subst (λ x. Overflows full.0 (at_cut w x)) (sym front) full.3)
        ];
      }

  deltas_on : (h es : List Entry) → list_any (λ (e : Entry). is_dump e.event) es ≡ false → ArePlaced h notes → AllDeltas images f s w mounted h notes → AllDeltas images f s w mounted (h ++ es) notes
  deltas_on h es none placed v n before note earlier is at =
      let less = within is_stored h es note.entries stored_dump none at in
      let known = v n before note earlier is (sym (stands_on is_stored h es note.entries less) ∙ at) in
      let front : take note.entries (h ++ es) ≡ take note.entries h = take-append-le note.entries h es (omega (arith, less)) in
      subst (λ x. IsDelta images f s w mounted (h ++ es) notes n before note (at_cut w x)) (sym front)
      (record { base = known.base; held = known.held; front = front_on w mounted h es notes n known.base placed known.front; fits = known.fits; wrote = known.wrote })

  numbered_on : (h es : List Entry) → ArePlaced h notes → AllNumbered images f s h notes → AllNumbered images f s (h ++ es) notes
  numbered_on h es placed v n k note is at =
      let less : note.entries < length h = elim (placed (suc n) note.entries (ap (λ o. option_map (λ (y : Note). y.entries) o) is)) [ inl z ↦ absurd (omega (arith, z.0)) | inr it ↦ it ] in
      elim (v n k note is (sym (event_off h es note.entries less) ∙ at)) [
        | inl held ↦ inl held
        | inr failed ↦ inr (failed.0, failed.1, event_on h es failed.0.entries (DumpFailed k) failed.2, failed.3)
      ]

  pub safe_on : (faults : D → ℕ) (h es : List Entry) → list_any (λ (e : Entry). is_dump e.event) es ≡ false → IsSafe moment images faults f s w mounted h notes → IsSafe moment images faults f s w mounted (h ++ es) notes
  safe_on faults h es none v = record {
    survives = survives_on h es none v.survives;
    caused = caused_on h es none v.survives.placed v.caused;
    deltas = deltas_on h es none v.survives.placed v.deltas;
    numbered = numbered_on h es v.survives.placed v.numbered;
    rise = v.rise;
  }

module _ {D : Type 0} (moment : D → ℕ) (images : D → ℕ → List ℕ → Type 0) (faults : D → ℕ) (f s : D) (mounted : ℕ) where
  pub safe_quiet : (h k : History) → Quietly h k → IsSafe moment images faults f s h.start mounted h.entries h.notes → IsSafe moment images faults f s k.start mounted k.entries k.notes
  safe_quiet h k q v =
      subst (λ (w : World). IsSafe moment images faults f s w mounted k.entries k.notes) (sym q.grew.start)
      (subst (λ (es : List Entry). IsSafe moment images faults f s h.start mounted es k.notes) (sym q.grew.entries)
      (subst (λ (ns : List Note). IsSafe moment images faults f s h.start mounted (h.entries ++ q.entries) ns) (sym q.grew.notes)
      (safe_on moment images f s h.start mounted h.notes faults h.entries q.entries q.none v)))

module _ {D : Type 0} (seen : D → List ℕ) (moment : D → ℕ) (images : D → ℕ → List ℕ → Type 0) (faults : D → ℕ) (log : Option LogState) (f s : D) (mounted : ℕ) where
  usable_on : (l : Option LogState) (w : World) (h es : List Entry) (notes : List Note) (n : ℕ) → ArePlaced h notes → IsUsable seen moment images l f s w mounted h notes n → IsUsable seen moment images l f s w mounted (h ++ es) notes n
  usable_on None w h es notes n placed u = tt
  usable_on (Some l) w h es notes n placed u = (u.0, u.1, front_on w mounted h es notes n l.chosen placed u.2)

  usable_quiet : (h k : History) (n : ℕ) → Quietly h k → ArePlaced h.entries h.notes → IsUsable seen moment images log f s h.start mounted h.entries h.notes n → IsUsable seen moment images log f s k.start mounted k.entries k.notes n
  usable_quiet h k n q placed u =
      subst (λ (w : World). IsUsable seen moment images log f s w mounted k.entries k.notes n) (sym q.grew.start)
      (subst (λ (es : List Entry). IsUsable seen moment images log f s h.start mounted es k.notes n) (sym q.grew.entries)
      (subst (λ (ns : List Note). IsUsable seen moment images log f s h.start mounted (h.entries ++ q.entries) ns n) (sym q.grew.notes)
      (usable_on log h.start h.entries q.entries h.notes n placed u)))

  pub keeps_quiet : (h k : History) → Quietly h k → Keeps seen moment images faults log f s mounted h → Keeps seen moment images faults log f s mounted k
  keeps_quiet h k q v = record {
    last = v.last;
    note = v.note;
    is = ap (λ (ns : List Note). slice_get ns v.last) q.grew.notes ∙ v.is;
    end = ap (λ (ns : List Note). length ns) q.grew.notes ∙ v.end;
    safe = safe_quiet moment images faults f s mounted h k q v.safe;
    usable = usable_quiet h k v.last q v.safe.survives.placed v.usable;
  }

  pub rests_quiet : (h k : History) → Quietly h k → Rests seen moment images faults log f s mounted h → Rests seen moment images faults log f s mounted k
  unfolding keeps_quiet
  rests_quiet h k q v = record { keeps = keeps_quiet h k q v.keeps; rests = v.rests }

-- What was written, and why it wasn't, is of the last Cut.

module _ (mounted : ℕ) (h k : History) (q : Quietly h k) (placed : ArePlaced h.entries h.notes) where
  pub same_cut : at_cut k.start k.entries ≡ at_cut h.start h.entries
  same_cut = ap (λ (w : World). at_cut w k.entries) q.grew.start ∙ ap (at_cut h.start) q.grew.entries ∙ at_cut_quiet h.start h.entries q.entries q.none

  pub same_number : batch_number_at mounted k.entries (last_cut k.entries) ≡ batch_number_at mounted h.entries (last_cut h.entries)
  same_number =
      ap (λ (es : List Entry). batch_number_at mounted es (last_cut es)) q.grew.entries
      ∙ ap (batch_number_at mounted (h.entries ++ q.entries)) (last_cut_quiet h.entries q.entries q.none)
      ∙ number_on mounted h.entries q.entries (last_cut h.entries) (last_cut_short h.entries)

  pub front_quiet : (n : ℕ) (x : Chosen) → IsFront h.start mounted h.entries h.notes n x → IsFront k.start mounted k.entries k.notes n x
  front_quiet n x p =
      subst (λ (w : World). IsFront w mounted k.entries k.notes n x) (sym q.grew.start)
      (subst (λ (es : List Entry). IsFront h.start mounted es k.notes n x) (sym q.grew.entries)
      (subst (λ (ns : List Note). IsFront h.start mounted (h.entries ++ q.entries) ns n x) (sym q.grew.notes)
      (front_on h.start mounted h.entries q.entries h.notes n x placed p)))

  same_notes : length k.notes ≡ length h.notes
  same_notes = ap (λ (ns : List Note). length ns) q.grew.notes

  pub dumped_quiet : {D : Type 0} (images : D → ℕ → List ℕ → Type 0) (f s : D) (x : Chosen) → IsDumped images f s mounted h x → IsDumped images f s mounted k x
  dumped_quiet images f s x d = record {
    last = d.last;
    note = d.note;
    there = ap (λ (ns : List Note). slice_get ns d.last) q.grew.notes ∙ d.there;
    end = same_notes ∙ d.end;
    before = d.before;
    held = d.held;
    front = front_quiet d.last d.before d.front;
    fits = subst (Fits d.before) (sym same_cut) d.fits;
    is = d.is ∙ ap (dumped_on d.before) (sym same_cut);
    number = same_number ∙ d.number;
    consistent = subst (λ (w : World). IsConsistent w.live.objects) (sym same_cut) d.consistent;
  }

  pub overflows_quiet : {D : Type 0} (moment : D → ℕ) (images : D → ℕ → List ℕ → Type 0) (f s : D) (x : Chosen) → OverflowsAtCut moment images f s mounted h x → OverflowsAtCut moment images f s mounted k x
  overflows_quiet moment images f s x o = record { last = o.last; end = same_notes ∙ o.end; held = o.held; front = front_quiet o.last x o.front; over = subst (Overflows x) (sym same_cut) o.over }

-- What a disk counts, and how the last dump came out, is of the last notes.

module _ (h k : History) (q : Quietly h k) where
  pub rises_quiet : {D : Type 0} (faults : D → ℕ) (f s : D) → RisesInDump faults f s h → RisesInDump faults f s k
  rises_quiet faults f s rose n before end there = rose n before (end ∙ ap (λ (ns : List Note). length ns) q.grew.notes) (ap (λ (ns : List Note). slice_get ns n) (sym q.grew.notes) ∙ there)

  pub failed_quiet : (n : ℕ) → FailedLast n h → FailedLast n k
  failed_quiet n v = record {
    last = v.last;
    note = v.note;
    is = ap (λ (ns : List Note). slice_get ns v.last) q.grew.notes ∙ v.is;
    end = ap (λ (ns : List Note). length ns) q.grew.notes ∙ v.end;
    event = ap (λ (es : List Entry). event_at es v.note.entries) q.grew.entries ∙ event_on h.entries q.entries v.note.entries (DumpFailed n) v.event;
  }
