-- A dump ends: it is told as it was.
use Rattle.std.proofs.Common.{◌≡◌, inl, inr, ℕ, Bool, true, false, List, [], ◌∷◌, refl, sym, ap, ◌∙◌, subst, arith, Option, Some, None, Result, Ok, Err}
use Rattle.muck_model.specs.declared.event.Event.TheVariants.{Cut, Stored, DumpFailed, Died}
use Rattle.muck_model.specs.declared.note.Note.{Note}
use Rattle.muck_log.specs.Store.{LogState}
use Rattle.muck_log.specs.Append.{more_of}
use Rattle.muck_log.specs.declared.fault.LogFault.{LogFault}
use Rattle.muck_log.specs.declared.fault.LogFault.TheVariants.{NoMemory, DiskFault, Damaged, StoreFull, Stale}
use Rattle.spec_events.specs.World.{World}
use Rattle.spec_events.specs.Steps.{effect}
use Rattle.spec_events.specs.Histories.{History, now, after, entered, noted}
use Rattle.spec_events.proofs.Runs.{longer_noted, now-longer}
use Rattle.spec_dumps.specs.Fronts.{IsFront, at_cut, log_of, persisted}
use Rattle.spec_dumps.specs.Survival.{IsSafe, RoseInLast, StandsWhole}
use Rattle.spec_dumps.specs.inner.Holding.{Keeps, Rests, Fails}
use Rattle.spec_dumps.proofs.Noting.{front_noted}
use Rattle.spec_dumps.proofs.Storing.{stored_rests, stored_whole}
use Rattle.spec_dumps.proofs.Failing.{failed_rests, rose_last}
use Rattle.muck_dumping.specs.inner.Dumps.{note_of, by, ending_event, Dumps, IsFull, IsDumpFault}
use Rattle.muck_dumping.specs.inner.Between.{IsWritten, IsLeft, IsFullAtCut, EndsAs}
use Rattle.muck_dumping.proofs.Kept.{SameKept, same_stored, same_failed, same_as, persisted_same, payload_same}
use Rattle.muck_dumping.proofs.Beginning.{died_noted}
use Rattle.muck_dumping.proofs.Steps.{at_cut_now, now_is}

module _ {D : Type 0} (seen : D → List ℕ) (moment : D → ℕ) (images : D → ℕ → List ℕ → Type 0) (faults : D → ℕ) (log : Option LogState) (f s : D) (mounted : ℕ) (h : History) (shown : (x : D) → images x (moment x) (seen x)) where
  abbrev note : Note
  note = note_of moment faults f s h

  abbrev Holds : History → Type 0
  Holds k = Rests seen moment images faults log f s mounted k

  fails_so : (party n : ℕ) → log ≡ None → Keeps seen moment images faults None f s mounted h → Fails moment images faults f s mounted h → Holds (entered (noted h note) (by party (DumpFailed n)))
  fails_so party n none v fails =
      failed_rests seen moment images faults log f s mounted h (subst (λ (l : Option LogState). Keeps seen moment images faults l f s mounted h) (sym none) v) note (refl, refl) (refl, refl) refl fails party n

  ends_so : (party n : ℕ) (r : Result (Unit {0}) LogFault) (done : Bool) → Keeps seen moment images faults None f s mounted h → IsLeft seen moment images faults log f s mounted h r → EndsAs r done → Holds (entered (noted h note) (by party (ending_event n done)))
  ends_so party n (Ok x) true v l e =
      subst (λ (o : Option LogState). Rests seen moment images faults o f s mounted (entered (noted h note) (by party (Stored n)))) (sym l.1)
      (stored_rests seen moment images faults f s mounted h v l.0 l.2 l.3 l.4 note (refl, refl) (refl, refl) refl (shown f) (shown s) party n)
  ends_so party n (Ok x) false v l e = absurd e
  ends_so party n (Err NoMemory) done v l e = absurd e
  ends_so party n (Err (Damaged on place)) done v l e = absurd e
  ends_so party n (Err DiskFault) true v l e = absurd e
  ends_so party n (Err DiskFault) false v l e = fails_so party n l.0 v (inl l.1)
  ends_so party n (Err Stale) true v l e = absurd e
  ends_so party n (Err Stale) false v l e = fails_so party n l.0 v (inl l.1)
  ends_so party n (Err (StoreFull end more)) true v l e = absurd e
  ends_so party n (Err (StoreFull end more)) false v l e = fails_so party n l.0 v (inr (l.1.0, l.1.1))

  pub ended_rests : (party n : ℕ) (r : Result (Unit {0}) LogFault) (done : Bool) (k : History) → k ≡ entered (noted h note) (by party (ending_event n done)) → IsWritten seen moment images faults log f s mounted h r → EndsAs r done → Holds k
  ended_rests party n r done k is w e = subst Holds (sym is) (ends_so party n r done w.keeps w.left e)

  -- or memory was wanted for telling so
  pub ended_dead : (party : ℕ) (r : Result (Unit {0}) LogFault) (k : History) → k ≡ entered (noted h note) (by party Died) → IsWritten seen moment images faults log f s mounted h r → IsSafe moment images faults f s k.start mounted k.entries k.notes
  ended_dead party r k is w = died_noted seen moment images faults None f s mounted h k party w.keeps is

  -- At once behind its Cut.
  module _ (party n : ℕ) (before : History) (a : Note) (cuts : h ≡ entered (noted before a) (by party (Cut n))) (k : History) where
    cut_is : at_cut h.start h.entries ≡ now h
    cut_is = at_cut_now before h a party n cuts

    since_stored : k ≡ entered (noted h note) (by party (Stored n)) → SameKept (at_cut h.start h.entries) (after k.start k.entries)
    since_stored is =
        subst (λ (w : World). SameKept w (after k.start k.entries)) (sym cut_is)
        (same_as (now h) (effect (now h) (by party (Stored n))) (after k.start k.entries) (same_stored (now h) party n)
        (sym (now_is k) ∙ now-longer h k (by party (Stored n) ∷ []) (longer_noted h k note (by party (Stored n)) is)))

    since_failed : k ≡ entered (noted h note) (by party (DumpFailed n)) → SameKept (at_cut h.start h.entries) (after k.start k.entries)
    since_failed is =
        subst (λ (w : World). SameKept w (after k.start k.entries)) (sym cut_is)
        (same_as (now h) (effect (now h) (by party (DumpFailed n))) (after k.start k.entries) (same_failed (now h) party n)
        (sym (now_is k) ∙ now-longer h k (by party (DumpFailed n) ∷ []) (longer_noted h k note (by party (DumpFailed n)) is)))

    -- it was stored
    pub dumps_stored : {E : Type 0} → k ≡ entered (noted h note) (by party (Stored n)) → IsWritten seen moment images faults log f s mounted h (Ok tt) → Dumps {E = E} seen moment images faults log f s mounted k (Ok None)
    dumps_stored is w =
        let rests = ended_rests party n (Ok tt) true k is w tt in
        record { safe = rests.keeps.safe; rests = rests; whole = λ e. whole; full = λ end more e. cc; fault = tt; rose = λ e. cc }
      where
        whole_at : (x : History) → x ≡ entered (noted h note) (by party (Stored n)) → persisted (after x.start x.entries) ≡ persisted (at_cut h.start h.entries) → StandsWhole moment images f s x.start x.entries
        whole_at x e = subst (λ (y : History). persisted (after y.start y.entries) ≡ persisted (at_cut h.start h.entries) → StandsWhole moment images f s y.start y.entries) (sym e)
            (stored_whole seen moment images faults f s mounted h w.keeps w.left.0 w.left.2 w.left.3 w.left.4 note (refl, refl) (refl, refl) refl (shown f) (shown s) party n)

        whole : StandsWhole moment images f s k.start k.entries
        whole = whole_at k is (persisted_same (at_cut h.start h.entries) (after k.start k.entries) (since_stored is))

    full_end : k ≡ entered (noted h note) (by party (DumpFailed n)) → (end more : ℕ) → Keeps seen moment images faults None f s mounted h → IsFullAtCut moment images f s mounted h end more → IsFull seen f s mounted k end more
    full_end is end more v l = record {
      n = l.1.last;
      store = l.0;
      shown = l.1.held.each (seen f) (seen s) (shown f) (shown s);
      front = subst (λ (x : History). IsFront x.start mounted x.entries x.notes l.1.last l.0) (sym is)
          (front_noted moment images f s h.start mounted h.entries h.notes (by party (DumpFailed n)) note (refl, refl) refl (omega (arith, v.end)) l.1.last l.0 v.safe.survives.placed (omega (arith, l.1.end)) l.1.front);
      place = l.2;
      size = l.3 ∙ ap (more_of (log_of l.0)) (sym (payload_same l.0 (at_cut h.start h.entries) (after k.start k.entries) (since_failed is)));
      over = omega (arith, l.1.over, l.2, l.3);
    }

    -- it failed
    pub dumps_failed : {E : Type 0} → k ≡ entered (noted h note) (by party (DumpFailed n)) → (fault : LogFault) → (fault ≡ Stale → ⊥) → IsWritten seen moment images faults log f s mounted h (Err fault) → EndsAs (Err fault) false →
        Dumps {E = E} seen moment images faults log f s mounted k (Ok (Some fault))
    dumps_failed is fault fresh w e =
        let rests = ended_rests party n (Err fault) false k is w e in
        record { safe = rests.keeps.safe; rests = rests; whole = λ none. cc; full = λ end more same. full_of fault w.left end more same; fault = caused fault fresh e; rose = λ same. rose_of fault w.left same }
      where
        first : (x y : LogFault) → Some x ≡ Some y → x ≡ y
        first x y same = cc

        full_of : (x : LogFault) → IsLeft seen moment images faults log f s mounted h (Err x) → (end more : ℕ) → Some x ≡ Some (StoreFull end more) → IsFull seen f s mounted k end more
        full_of x l end more same =
            let it = subst (λ (y : LogFault). IsLeft seen moment images faults log f s mounted h (Err y)) (first x (StoreFull end more) same) l in
            full_end is end more w.keeps it.1

        rose_of : (x : LogFault) → IsLeft seen moment images faults log f s mounted h (Err x) → Some x ≡ Some DiskFault → RoseInLast k.notes
        rose_of x l same =
            let it = subst (λ (y : LogFault). IsLeft seen moment images faults log f s mounted h (Err y)) (first x DiskFault same) l in
            rose_last faults f s h k note (by party (DumpFailed n)) is (refl, refl) it.1

        caused : (x : LogFault) → (x ≡ Stale → ⊥) → EndsAs (Err x) false → IsDumpFault (Some x)
        caused NoMemory fresh e = absurd e
        caused (Damaged on place) fresh e = absurd e
        caused DiskFault fresh e = tt
        caused Stale fresh e = absurd (fresh refl)
        caused (StoreFull end more) fresh e = tt

    -- no log was mounted for it
    pub dumps_unmounted : {E : Type 0} → k ≡ entered (noted h note) (by party (DumpFailed n)) → IsWritten seen moment images faults log f s mounted h (Err Stale) → Dumps {E = E} seen moment images faults log f s mounted k (Ok (Some DiskFault))
    dumps_unmounted is w =
        let rests = ended_rests party n (Err Stale) false k is w tt in
        record { safe = rests.keeps.safe; rests = rests; whole = λ none. cc; full = λ end more same. cc; fault = tt; rose = λ same. rose_last faults f s h k note (by party (DumpFailed n)) is (refl, refl) w.left.1 }

-- Memory was wanted.
pub dumps_dead : {D E : Type 0} (seen : D → List ℕ) (moment : D → ℕ) (images : D → ℕ → List ℕ → Type 0) (faults : D → ℕ) (log : Option LogState) (f s : D) (mounted : ℕ) (k : History) (x : E) →
    IsSafe moment images faults f s k.start mounted k.entries k.notes → Dumps seen moment images faults log f s mounted k (Err x)
dumps_dead seen moment images faults log f s mounted k x safe = record { safe = safe; rests = tt; whole = tt; full = tt; fault = tt; rose = tt }
