-- A dump that began is written, and it is stored.
use Rattle.std.proofs.Common.{◌≡◌, inl, inr, ℕ, ◌<◌, ◌≤◌, true, ◌||◌, zero, suc, List, [], ◌∷◌, length, take, refl, ap, sym, ◌∙◌, subst, arith, Some, None}
use Rattle.std.specs.Prelude.{slice_get}
use Rattle.std.proofs.lemmas.List.{take-append-le}
use Rattle.muck_laws.proofs.Lists.{length_last}
use Rattle.muck_laws.proofs.Places.{got_last}
use Rattle.muck_model.specs.declared.event.Entry.{Entry}
use Rattle.muck_model.specs.declared.event.Event.{Event}
use Rattle.muck_model.specs.declared.event.Event.TheVariants.{Stored}
use Rattle.muck_model.specs.declared.note.Note.{Note}
use Rattle.spec_live.specs.Consistent.{IsConsistent}
use Rattle.muck_log.specs.File.{after_number}
use Rattle.muck_log.specs.Store.{Chosen, LogState, LeavesBoth, IsMounted, after_batch, store_of}
use Rattle.muck_log.specs.Append.{LoadsEither}
use Rattle.spec_events.specs.World.{World}
use Rattle.spec_events.specs.Histories.{History, after, entered, noted}
use Rattle.spec_events.specs.Logged.{is_cut, is_stored, is_failed}
use Rattle.spec_dumps.specs.Fronts.{persisted, last_cut, at_cut, batch_number_at, IsNotedBy, IsFront, Loads, Fits, dumped_on, file_most}
use Rattle.spec_dumps.specs.Survival.{AllNoted, HoldsAt, HoldsBy, IsDelta, StandsWhole}
use Rattle.spec_dumps.specs.inner.Holding.{IsAt, IsCounted, Keeps, Rests, IsDumped}
use Rattle.spec_dumps.proofs.Fronts.{note_within, noted_on, number_on, last_cut_short, last_cut_taken, last_cut_front, last_cut_stands}
use Rattle.spec_dumps.proofs.Moving.{safe_moved, held_still, held_now, held_noted}
use Rattle.spec_dumps.proofs.Noting.{front_noted, survives_noted, caused_noted, deltas_noted, numbered_noted, rise_noted, stands_within}
use Rattle.spec_dumps.proofs.Quiet.{stands_dump}

-- The store with a dump.

abbrev cut_dump : (event : Event) → is_cut event ≡ true → (is_cut event || (is_stored event || is_failed event)) ≡ true
cut_dump event e = ap (λ b. b || (is_stored event || is_failed event)) e

pub dumped_holds : (s : Chosen) (w : World) → (dumped_on s w).held.world ≡ persisted w
unfolding after_batch
dumped_holds s w = refl

dumped_number : (s : Chosen) (w : World) → (dumped_on s w).held.number ≡ after_number s.held.number
unfolding after_batch
dumped_number s w = refl

-- the last Cut has its note
noted_cut : (h : List Entry) (notes : List Note) (last : ℕ) → length notes ≡ suc last → AllNoted h notes → (n : ℕ) → last_cut h ≡ n → IsNotedBy notes last n
noted_cut h notes last end noted zero is = tt
noted_cut h notes last end noted (suc n) is =
    let known = noted n (stands_dump is_cut h n cut_dump (last_cut_stands h n is)) in
    (known.0, known.1, omega (arith, end, note_within notes known.0 n known.2), known.2)

-- a store that holds the world at the last Cut, and has its number, is one after a front
front_at_cut : (w : World) (mounted : ℕ) (h : List Entry) (notes : List Note) (last : ℕ) (x : Chosen) → length notes ≡ suc last → AllNoted h notes → IsConsistent (at_cut w h).live.objects →
    x.held.world ≡ persisted (at_cut w h) → batch_number_at mounted h (last_cut h) ≡ x.held.number → IsFront w mounted h notes last x
front_at_cut w mounted h notes last x end noted consistent holds number = record {
  count = last_cut h;
  short = last_cut_short h;
  world = holds;
  consistent = consistent;
  cut = last_cut_taken h;
  number = sym number;
  noted = noted_cut h notes last end noted (last_cut h) refl;
  acknowledged = λ i place low at is. last_cut_front h place;
}

-- The disks are as they stood at the note of the last Cut, and the log is on the store before.
module _ {D : Type 0} (seen : D → List ℕ) (moment : D → ℕ) (images : D → ℕ → List ℕ → Type 0) (faults : D → ℕ) (f s : D) (mounted : ℕ) (h : History) (log : LogState) (r : Rests seen moment images faults (Some log) f s mounted h)
    (consistent : IsConsistent (at_cut h.start h.entries).live.objects) (number : batch_number_at mounted h.entries (last_cut h.entries) ≡ after_number log.chosen.held.number) where
  abbrev dumped : Chosen
  dumped = dumped_on log.chosen (at_cut h.start h.entries)

  -- a store with the batch, where it fits
  pub dumped_it : (f' s' : D) → LeavesBoth moment images f s f' s' (LoadsEither log.chosen dumped) → images f (moment f) (seen f) → images s (moment s) (seen s) → Fits log.chosen (at_cut h.start h.entries) → (x : Chosen) → x ≡ dumped →
      IsDumped images f' s' mounted h x
  dumped_it f' s' leaves left_f left_s fits x is = record {
    last = r.keeps.last;
    note = r.keeps.note;
    there = r.keeps.is;
    end = r.keeps.end;
    before = log.chosen;
    held = held_still moment images f s f' s' (record { kept = leaves.first_kept; stays = leaves.first_stays }) (record { kept = leaves.second_kept; stays = leaves.second_stays }) r.keeps.note.first_moment r.keeps.note.second_moment log.chosen (omega (arith, r.rests.0)) (omega (arith, r.rests.1))
        (held_noted moment images f s r.keeps.note log.chosen r.rests (held_now seen moment images log f s r.keeps.usable.0 left_f left_s));
    front = r.keeps.usable.2;
    fits = fits;
    is = is;
    number = number ∙ sym (dumped_number log.chosen (at_cut h.start h.entries)) ∙ ap (λ (y : Chosen). y.held.number) (sym is);
    consistent = consistent;
  }

  -- is one after a front, the history up to the Cut
  dumped_front : IsFront h.start mounted h.entries h.notes r.keeps.last dumped
  dumped_front = front_at_cut h.start mounted h.entries h.notes r.keeps.last dumped r.keeps.end r.keeps.safe.survives.noted consistent (dumped_holds log.chosen (at_cut h.start h.entries)) (number ∙ sym (dumped_number log.chosen (at_cut h.start h.entries)))

  -- while the batch is written, and after it
  pub append_moves : (f' s' : D) → LeavesBoth moment images f s f' s' (LoadsEither log.chosen dumped) → faults f ≤ faults f' → faults s ≤ faults s' → Keeps seen moment images faults None f' s' mounted h
  append_moves f' s' leaves first_later second_later = record {
    last = r.keeps.last;
    note = r.keeps.note;
    is = r.keeps.is;
    end = r.keeps.end;
    safe = safe_moved moment images f s f' s' h.start mounted h.entries h.notes r.keeps.last r.keeps.note r.keeps.is r.keeps.end r.rests (LoadsEither log.chosen dumped) leaves loads faults first_later second_later r.keeps.safe;
    usable = tt;
  }
    where
      loads : (c d : List ℕ) → LoadsEither log.chosen dumped c d → Loads h.start mounted h.entries h.notes r.keeps.last (store_of c d)
      loads c d (inl e) = (log.chosen, e, r.keeps.usable.2)
      loads c d (inr e) = (dumped, e, dumped_front)

-- It was written, and is told to be stored.
module _ {D : Type 0} (seen : D → List ℕ) (moment : D → ℕ) (images : D → ℕ → List ℕ → Type 0) (faults : D → ℕ) (f s : D) (mounted : ℕ) (h : History) (v : Keeps seen moment images faults None f s mounted h)
    (log : LogState) (there : IsMounted seen moment images log f s) (limit : log.most ≡ file_most) (d : IsDumped images f s mounted h log.chosen)
    (note : Note) (here : IsAt moment f s note) (count : IsCounted faults f s note) (behind : note.entries ≡ length h.entries)
    (left_f : images f (moment f) (seen f)) (left_s : images s (moment s) (seen s)) (party n : ℕ) where
  abbrev stored_entry : Entry
  stored_entry = record { party = party; event = Stored n }

  abbrev m : History
  m = entered (noted h note) stored_entry

  some : 0 < length h.notes
  some = omega (arith, v.end)

  holds : log.chosen.held.world ≡ persisted (at_cut h.start h.entries)
  holds = ap (λ (x : Chosen). x.held.world) d.is ∙ dumped_holds d.before (at_cut h.start h.entries)

  front : (place : ℕ) → place ≤ length h.entries → take place m.entries ≡ take place h.entries
  front place le = take-append-le place h.entries (stored_entry ∷ []) le

  front_cut : take (last_cut h.entries) m.entries ≡ take (last_cut h.entries) h.entries
  front_cut = front (last_cut h.entries) (last_cut_short h.entries)

  -- the store that was written is that front, also behind the note of its end
  stored_front : IsFront h.start mounted m.entries m.notes (length h.notes) log.chosen
  stored_front = record {
    count = last_cut h.entries;
    short = omega (arith, last_cut_short h.entries, length_last h.entries stored_entry);
    world = holds ∙ ap (λ (es : List Entry). persisted (after h.start es)) (sym front_cut);
    consistent = subst (λ (es : List Entry). IsConsistent (after h.start es).live.objects) (sym front_cut) d.consistent;
    cut = ap last_cut front_cut ∙ last_cut_taken h.entries;
    number = sym d.number ∙ sym (number_on mounted h.entries (stored_entry ∷ []) (last_cut h.entries) (last_cut_short h.entries));
    noted = noted_on h.notes (note ∷ []) v.last (length h.notes) (last_cut h.entries) (omega (arith, v.end)) (noted_cut h.entries h.notes v.last v.end v.safe.survives.noted (last_cut h.entries) refl);
    acknowledged = λ i place low at is.
        let within : place ≤ length h.entries = omega (arith, stands_within is_stored m.entries place is, length_last h.entries stored_entry) in
        omega (arith, last_cut_front h.entries place, ap last_cut (front place within));
  }

  holds_now : HoldsAt images f s (moment f) (moment s) log.chosen
  holds_now = held_now seen moment images log f s there left_f left_s

  pub stored_rests : Rests seen moment images faults (Some log) f s mounted m
  stored_rests = record {
    keeps = record {
      last = length h.notes;
      note = note;
      is = got_last h.notes note;
      end = length_last h.notes note;
      safe = record {
        survives = survives_noted moment images f s h.start mounted h.entries h.notes stored_entry note here behind some v.safe.survives
            (λ c d left_c left_d. (log.chosen, holds_now.each c d left_c left_d, stored_front));
        caused = caused_noted moment images f s h.start mounted h.entries h.notes stored_entry note here behind some v.safe.survives.placed v.safe.caused (λ i before at there fails. cc);
        deltas = deltas_noted moment images f s h.start mounted h.entries h.notes stored_entry note here behind some v.safe.survives.placed v.safe.deltas wrote;
        numbered = numbered_noted moment images f s h.start mounted h.entries h.notes stored_entry note here behind some v.safe.survives.placed v.safe.numbered (λ i k at cuts. cc);
        rise = rise_noted moment images f s h.start mounted h.entries h.notes stored_entry note here behind some faults v.safe.rise count;
      };
      usable = (there, limit, stored_front);
    };
    rests = here;
  }
    where
      index : (i : ℕ) → suc i ≡ length h.notes → d.last ≡ i
      index i at = omega (arith, at, d.end)

      same : (x y : Note) → Some x ≡ Some y → x ≡ y
      same x y e = cc

      wrote : (i : ℕ) (before : Note) → suc i ≡ length h.notes → slice_get h.notes i ≡ Some before → is_stored stored_entry.event ≡ true → IsDelta images f s h.start mounted m.entries m.notes i before note (at_cut h.start h.entries)
      wrote i before at earlier stores = record {
        base = d.before;
        held = subst (λ x. HoldsBy images f s x d.before) (same d.note before (sym d.there ∙ ap (slice_get h.notes) (index i at) ∙ earlier)) d.held;
        front = front_noted moment images f s h.start mounted h.entries h.notes stored_entry note here behind some i d.before v.safe.survives.placed (omega (arith, at))
            (subst (λ j. IsFront h.start mounted h.entries h.notes j d.before) (index i at) d.front);
        fits = d.fits;
        wrote = subst (HoldsBy images f s note) d.is (held_noted moment images f s note log.chosen here holds_now);
      }

  -- and where nothing that is stored changed since its Cut, the disks hold the world as it is
  pub stored_whole : persisted (after h.start m.entries) ≡ persisted (at_cut h.start h.entries) → StandsWhole moment images f s h.start m.entries
  stored_whole same c e left_c left_e = (log.chosen, holds_now.each c e left_c left_e, holds ∙ sym same)
