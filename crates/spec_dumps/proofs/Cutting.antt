-- A note and an entry that stores nothing: the Cut of a dump, or its failure.
use Rattle.std.proofs.Common.{◌≡◌, ℕ, ◌<◌, true, false, suc, List, [], ◌∷◌, ◌++◌, length, ◌⊎◌, inl, inr, refl, ap, sym, ◌∙◌, subst, arith, Option, Some, None}
use Rattle.std.specs.Prelude.{slice_get, if◌then◌else◌}
use Rattle.std.specs.Option.{option_map, option_map_or}
use Rattle.std.proofs.lemmas.List.{take_all}
use Rattle.muck_laws.proofs.Lists.{length_last}
use Rattle.muck_laws.proofs.Places.{got_last}
use Rattle.muck_model.specs.declared.event.Entry.{Entry}
use Rattle.muck_model.specs.declared.event.Event.TheVariants.{Cut, DumpFailed}
use Rattle.muck_model.specs.declared.note.Note.{Note}
use Rattle.muck_io.specs.Faults.{Rose}
use Rattle.muck_log.specs.File.{after_number}
use Rattle.muck_log.specs.Store.{Chosen, LogState, IsMounted, store_of}
use Rattle.spec_events.specs.World.{World}
use Rattle.spec_events.specs.Histories.{History, after, entered, noted}
use Rattle.spec_events.specs.Logged.{is_cut, is_stored, is_failed}
use Rattle.spec_dumps.specs.Fronts.{event_at, front_behind_cut, last_cut, at_cut, number_of_cut, batch_number_at, IsFront}
use Rattle.spec_dumps.specs.Survival.{HasCause, HasNumber, IsSafe}
use Rattle.spec_dumps.specs.inner.Holding.{IsAt, IsCounted, IsUsable, Keeps, Rests, FailedLast}
use Rattle.spec_dumps.proofs.Fronts.{loads_by}
use Rattle.spec_dumps.proofs.Moving.{held_now, held_noted, loads_now}
use Rattle.spec_dumps.proofs.Noting.{front_next, survives_noted, caused_noted, deltas_noted, numbered_noted, rise_noted}

-- why the entry e fails, if it does
abbrev pub FailsBy : {D : Type 0} → (D → ℕ → List ℕ → Type 0) → D → D → ℕ → History → Note → Entry → Type 0
FailsBy images f s mounted h note e = (n : ℕ) (before : Note) → suc (suc n) ≡ length h.notes → slice_get h.notes n ≡ Some before → is_failed e.event ≡ true → HasCause images f s h.start mounted (h.entries ++ e ∷ []) (h.notes ++ note ∷ []) n note before

-- what gives it its number, if it is a Cut
abbrev pub NumberedBy : {D : Type 0} → (D → ℕ → List ℕ → Type 0) → D → D → History → Note → Entry → Type 0
NumberedBy images f s h note e = (n k : ℕ) → suc n ≡ length h.notes → e.event ≡ Cut k → HasNumber images f s h.entries h.notes n note k

module _ {D : Type 0} (seen : D → List ℕ) (moment : D → ℕ) (images : D → ℕ → List ℕ → Type 0) (faults : D → ℕ) (log : Option LogState) (f s : D) (mounted : ℕ) (h : History) (note : Note) (e : Entry) where
  next : (v : Keeps seen moment images faults log f s mounted h) → IsAt moment f s note → note.entries ≡ length h.entries → is_stored e.event ≡ false → (x : Chosen) → IsFront h.start mounted h.entries h.notes v.last x →
      IsFront h.start mounted (h.entries ++ e ∷ []) (h.notes ++ note ∷ []) (length h.notes) x
  next v here behind other x p = front_next moment images f s h.start mounted h.entries h.notes e note here behind (omega (arith, v.end)) v.last x v.safe.survives.placed (sym v.end) other p

  pub safe_next : Keeps seen moment images faults log f s mounted h → IsAt moment f s note → IsCounted faults f s note → note.entries ≡ length h.entries → is_stored e.event ≡ false → FailsBy images f s mounted h note e → NumberedBy images f s h note e →
      IsSafe moment images faults f s h.start mounted (h.entries ++ e ∷ []) (h.notes ++ note ∷ [])
  safe_next v here count behind other why numbers = record {
    survives = survives_noted moment images f s h.start mounted h.entries h.notes e note here behind some v.safe.survives
        (λ c d left_c left_d. loads_by h.start h.start mounted h.entries (h.entries ++ e ∷ []) h.notes (h.notes ++ note ∷ []) v.last (length h.notes) (store_of c d) (next v here behind other)
        (loads_now moment images f s h.start mounted h.entries h.notes v.last v.note v.is v.end v.safe.survives c d left_c left_d));
    caused = caused_noted moment images f s h.start mounted h.entries h.notes e note here behind some v.safe.survives.placed v.safe.caused why;
    deltas = deltas_noted moment images f s h.start mounted h.entries h.notes e note here behind some v.safe.survives.placed v.safe.deltas
        (λ n before at there stores. absurd (no stores));
    numbered = numbered_noted moment images f s h.start mounted h.entries h.notes e note here behind some v.safe.survives.placed v.safe.numbered numbers;
    rise = rise_noted moment images f s h.start mounted h.entries h.notes e note here behind some faults v.safe.rise count;
  }
    where
      some : 0 < length h.notes
      some = omega (arith, v.end)

      no : is_stored e.event ≡ true → ⊥
      no is = let so = other in cc

  pub usable_next : Keeps seen moment images faults log f s mounted h → IsAt moment f s note → note.entries ≡ length h.entries → is_stored e.event ≡ false →
      IsUsable seen moment images log f s h.start mounted (h.entries ++ e ∷ []) (h.notes ++ note ∷ []) (length h.notes)
  usable_next v here behind other = usable log v.usable (next v here behind other) where
    usable : (l : Option LogState) → IsUsable seen moment images l f s h.start mounted h.entries h.notes v.last →
        ((x : Chosen) → IsFront h.start mounted h.entries h.notes v.last x → IsFront h.start mounted (h.entries ++ e ∷ []) (h.notes ++ note ∷ []) (length h.notes) x) →
        IsUsable seen moment images l f s h.start mounted (h.entries ++ e ∷ []) (h.notes ++ note ∷ []) (length h.notes)
    usable None u on = tt
    usable (Some l) u on = (u.0, u.1, on l.chosen u.2)

  pub rests_next : Keeps seen moment images faults log f s mounted h → IsAt moment f s note → IsCounted faults f s note → note.entries ≡ length h.entries → is_stored e.event ≡ false → FailsBy images f s mounted h note e → NumberedBy images f s h note e →
      Rests seen moment images faults log f s mounted (entered (noted h note) e)
  rests_next v here count behind other why numbers = record {
    keeps = record {
      last = length h.notes;
      note = note;
      is = got_last h.notes note;
      end = length_last h.notes note;
      safe = safe_next v here count behind other why numbers;
      usable = usable_next v here behind other;
    };
    rests = here;
  }

  -- in the words of the calls
  pub rests_on : (k : History) → k ≡ entered (noted h note) e → Keeps seen moment images faults log f s mounted h → IsAt moment f s note → IsCounted faults f s note → note.entries ≡ length h.entries → is_stored e.event ≡ false → FailsBy images f s mounted h note e → NumberedBy images f s h note e →
      Rests seen moment images faults log f s mounted k
  rests_on k is v here count behind other why numbers = subst (λ x. Rests seen moment images faults log f s mounted x) (sym is) (rests_next v here count behind other why numbers)

-- a Cut, with its number
pub cut_noted : {D : Type 0} (seen : D → List ℕ) (moment : D → ℕ) (images : D → ℕ → List ℕ → Type 0) (faults : D → ℕ) (log : Option LogState) (f s : D) (mounted : ℕ) (h k : History) (note : Note) (party n : ℕ) →
    (v : Keeps seen moment images faults log f s mounted h) → k ≡ entered (noted h note) (record { party = party; event = Cut n }) → note.entries ≡ length h.entries → IsAt moment f s note → IsCounted faults f s note →
    HasNumber images f s h.entries h.notes v.last note n → Rests seen moment images faults log f s mounted k
cut_noted seen moment images faults log f s mounted h k note party n v is behind here count number =
    rests_on seen moment images faults log f s mounted h note (record { party = party; event = Cut n }) k is v here count behind refl (λ i before at there fails. cc)
    (λ i m at cuts. subst (λ j. HasNumber images f s h.entries h.notes j note m) (last i at) (subst (HasNumber images f s h.entries h.notes v.last note) (same n m cuts) number))
  where
    last : (i : ℕ) → suc i ≡ length h.notes → v.last ≡ i
    last i at = omega (arith, at, v.end)

    same : (a b : ℕ) → Cut a ≡ Cut b → a ≡ b
    same a b e = cc

-- where a log is mounted it is one more than that of the store on which the log stands
pub number_mounted : {D : Type 0} (seen : D → List ℕ) (moment : D → ℕ) (images : D → ℕ → List ℕ → Type 0) (log : LogState) (f s : D) (h : History) (note : Note) (i n : ℕ) → IsMounted seen moment images log f s → images f (moment f) (seen f) → images s (moment s) (seen s) →
    IsAt moment f s note → n ≡ after_number log.chosen.held.number → HasNumber images f s h.entries h.notes i note n
number_mounted seen moment images log f s h note i n m left_f left_s here is = inl (log.chosen, held_noted moment images f s note log.chosen here (held_now seen moment images log f s m left_f left_s), is)

-- where none is, it is that of the dump that failed last, since which a disk failed
pub number_failed : {D : Type 0} (images : D → ℕ → List ℕ → Type 0) (f s : D) (h : History) (note : Note) (i n : ℕ) → length h.notes ≡ suc i → (v : FailedLast n h) → Rose v.note.first_faults note.first_faults ⊎ Rose v.note.second_faults note.second_faults →
    HasNumber images f s h.entries h.notes i note n
number_failed images f s h note i n end v rose = inr (v.note, ap (slice_get h.notes) (omega (arith, end, v.end)) ∙ v.is, v.event, rose)

-- the dump n failed last
pub failed_last : (h k : History) (note : Note) (party n : ℕ) → k ≡ entered (noted h note) (record { party = party; event = DumpFailed n }) → note.entries ≡ length h.entries → FailedLast n k
failed_last h k note party n is behind = subst (FailedLast n) (sym is) (record {
  last = length h.notes;
  note = note;
  is = got_last h.notes note;
  end = length_last h.notes note;
  event = ap (event_at (h.entries ++ failed ∷ [])) behind ∙ ap (option_map (λ (e : Entry). e.event)) (got_last h.entries failed);
})
  where
    failed : Entry
    failed = record { party = party; event = DumpFailed n }

-- The Cut that stands last.

last_cut_one : (e : Entry) → is_cut e.event ≡ true → last_cut (e ∷ []) ≡ 1
unfolding last_cut
last_cut_one e is = ap (λ b. if b then 1 else 0) is

last_cut_more : (e : Entry) (h : List Entry) (n : ℕ) → last_cut h ≡ suc n → last_cut (e ∷ h) ≡ suc (suc n)
unfolding last_cut
last_cut_more e h n is = ap (λ k. front_behind_cut k (is_cut e.event)) is

last_cut_end : (h : List Entry) (e : Entry) → is_cut e.event ≡ true → last_cut (h ++ e ∷ []) ≡ suc (length h)
last_cut_end [] e is = last_cut_one e is
last_cut_end (x ∷ h) e is = last_cut_more x (h ++ e ∷ []) (length h) (last_cut_end h e is)

-- the world at it is the one as it is
pub at_cut_end : (w : World) (h : List Entry) (party n : ℕ) → at_cut w (h ++ record { party = party; event = Cut n } ∷ []) ≡ after w (h ++ record { party = party; event = Cut n } ∷ [])
at_cut_end w h party n =
    let cut : Entry = record { party = party; event = Cut n } in
    ap (after w) (take_all (last_cut (h ++ cut ∷ [])) (h ++ cut ∷ []) (omega (arith, last_cut_end h cut refl, length_last h cut)))

-- and it has its number
pub number_end : (mounted : ℕ) (h : List Entry) (party n : ℕ) → batch_number_at mounted (h ++ record { party = party; event = Cut n } ∷ []) (last_cut (h ++ record { party = party; event = Cut n } ∷ [])) ≡ n
number_end mounted h party n =
    let cut : Entry = record { party = party; event = Cut n } in
    ap (batch_number_at mounted (h ++ cut ∷ [])) (last_cut_end h cut refl) ∙ ap (λ o. option_map_or (λ (e : Entry). number_of_cut e.event) o mounted) (got_last h cut)
