-- A dump as a part of a run: it begins, and comes out.
use Rattle.std.proofs.Common.{◌≡◌, inl, inr, ℕ, Bool, true, false, List, [], ◌∷◌, refl, ap, ◌∙◌, Option, Some, None, Ok, Err}
use Rattle.muck_laws.proofs.Lists.{no_ending}
use Rattle.muck_model.specs.declared.event.Event.{Event}
use Rattle.muck_model.specs.declared.event.Event.TheVariants.{Cut, Stored, DumpFailed, Died}
use Rattle.muck_model.specs.declared.note.Note.{Note}
use Rattle.muck_model.specs.declared.memory.NoMemory.{NoMemory as Wanted}
use Rattle.muck_log.specs.Store.{LogState}
use Rattle.muck_log.specs.declared.fault.LogFault.{LogFault}
use Rattle.spec_events.specs.World.{World}
use Rattle.spec_events.specs.Steps.{is_died}
use Rattle.spec_events.specs.Histories.{History, now, entered, noted, Longer, by_porter}
use Rattle.spec_events.proofs.Living.{dead-effect}
use Rattle.spec_events.proofs.Runs.{longer_one, longer_noted, longer_on, now-longer}
use Rattle.muck_script.specs.Story.{stored, failed, dump_part, event_told}
use Rattle.muck_dumping.specs.inner.Dumps.{Dies, HasDumped, first as died_first, begun as died_begun, cut as died_cut, ending as died_ending}
use Rattle.muck_dumping.proofs.Steps.{ended_idle}
use Rattle.muck_run.specs.declared.playing.RunFault.{RunFault}
use Rattle.muck_run.specs.inner.Dumps.{ending_event, Dumps, DumpsLast, ComesOut, IsNotedOn}
use Rattle.muck_run.specs.inner.Plays.{Plays, Breaks}
use Rattle.muck_run.proofs.Closing.{came_stored, came_failed}
use Rattle.muck_run.proofs.Noted.{noted_one, noted_more, noted_then}
use Rattle.muck_run.proofs.Parts.{appends_nothing}

lives : (h k : History) (event : Event) → Longer h k (by_porter event ∷ []) → is_died event ≡ false → (now h).dead ≡ false → (now k).dead ≡ false
lives h k event is other alive = ap (λ (w : World). w.dead) (now-longer h k (by_porter event ∷ []) is) ∙ dead-effect (now h) (by_porter event) other ∙ alive

module _ (h : History) (o : Option (List ℕ)) where
  -- memory was wanted before it began
  dies_first : (k : History) → Longer h k (by_porter Died ∷ []) → Breaks dump_part (by_porter Died ∷ []) h k o o
  dies_first k is = record {
    front = [];
    pending = [];
    began = tt;
    whole = λ later. (dump_part later (now h), refl);
    history = is;
    told = [];
    untold = [];
    text = refl;
    appended = appends_nothing o;
    alive = λ e. no_ending e;
  }

  dies_at_once : (k : History) → k ≡ entered h (by_porter Died) → Breaks dump_part (by_porter Died ∷ []) h k o o
  dies_at_once k is = dies_first k (longer_one h k (by_porter Died) is)

  dies_noted : (k : History) (note : Note) → k ≡ entered (noted h note) (by_porter Died) → Breaks dump_part (by_porter Died ∷ []) h k o o
  dies_noted k note is = dies_first k (longer_noted h k note (by_porter Died) is)

  -- it began
  module _ (k m : History) (note : Note) (n : ℕ) (cuts : k ≡ entered (noted h note) (by_porter (Cut n))) where
    cut_longer : Longer h k (by_porter (Cut n) ∷ [])
    cut_longer = longer_noted h k note (by_porter (Cut n)) cuts

    -- and memory was wanted
    dies_longer : Longer k m (by_porter Died ∷ []) → Breaks dump_part (by_porter Died ∷ []) h m o o
    unfolding event_told
    dies_longer is = record {
      front = by_porter (Cut n) ∷ [];
      pending = stored n ∷ [];
      began = ([], refl);
      whole = λ later. (by_porter (Stored n) ∷ [], refl);
      history = longer_on h k m (by_porter (Cut n) ∷ []) (by_porter Died ∷ []) cut_longer is;
      told = [];
      untold = [];
      text = refl;
      appended = appends_nothing o;
      alive = λ e. no_ending e;
    }

    dies_cut : m ≡ entered k (by_porter Died) → Breaks dump_part (by_porter Died ∷ []) h m o o
    dies_cut is = dies_longer (longer_one k m (by_porter Died) is)

    dies_ending : (note' : Note) → m ≡ entered (noted k note') (by_porter Died) → Breaks dump_part (by_porter Died ∷ []) h m o o
    dies_ending note' is = dies_longer (longer_noted k m note' (by_porter Died) is)

    -- or it came out
    plays_dump : (note' : Note) (b : Bool) → m ≡ entered (noted k note') (by_porter (ending_event n b)) → (now h).dead ≡ false → Plays dump_part h m o o
    unfolding event_told
    plays_dump note' true is alive = record {
      entries = by_porter (Cut n) ∷ by_porter (Stored n) ∷ [];
      said = λ later. refl;
      history = longer_on h k m (by_porter (Cut n) ∷ []) (by_porter (Stored n) ∷ []) cut_longer (longer_noted k m note' (by_porter (Stored n)) is);
      text = appends_nothing o;
      alive = lives k m (Stored n) (longer_noted k m note' (by_porter (Stored n)) is) refl (lives h k (Cut n) cut_longer refl alive);
    }
    plays_dump note' false is alive = record {
      entries = by_porter (Cut n) ∷ by_porter (DumpFailed n) ∷ [];
      said = λ later. refl;
      history = longer_on h k m (by_porter (Cut n) ∷ []) (by_porter (DumpFailed n) ∷ []) cut_longer (longer_noted k m note' (by_porter (DumpFailed n)) is);
      text = appends_nothing o;
      alive = lives k m (DumpFailed n) (longer_noted k m note' (by_porter (DumpFailed n)) is) refl (lives h k (Cut n) cut_longer refl alive);
    }

    last_dump : (note' : Note) (b : Bool) → m ≡ entered (noted k note') (by_porter (ending_event n b)) → DumpsLast h m
    last_dump note' true is = (by_porter (Cut n) ∷ by_porter (Stored n) ∷ [], longer_on h k m (by_porter (Cut n) ∷ []) (by_porter (Stored n) ∷ []) cut_longer (longer_noted k m note' (by_porter (Stored n)) is), inl (stored n, refl))
    last_dump note' false is = (by_porter (Cut n) ∷ by_porter (DumpFailed n) ∷ [], longer_on h k m (by_porter (Cut n) ∷ []) (by_porter (DumpFailed n) ∷ []) cut_longer (longer_noted k m note' (by_porter (DumpFailed n)) is), inl (failed n, refl))

    last_cut : m ≡ entered k (by_porter Died) → DumpsLast h m
    last_cut is = (by_porter (Cut n) ∷ by_porter Died ∷ [], longer_on h k m (by_porter (Cut n) ∷ []) (by_porter Died ∷ []) cut_longer (longer_one k m (by_porter Died) is), inr (inr (n, refl)))

    last_ending : (note' : Note) → m ≡ entered (noted k note') (by_porter Died) → DumpsLast h m
    last_ending note' is = (by_porter (Cut n) ∷ by_porter Died ∷ [], longer_on h k m (by_porter (Cut n) ∷ []) (by_porter Died ∷ []) cut_longer (longer_noted k m note' (by_porter Died) is), inr (inr (n, refl)))

  last_at_once : (k : History) → k ≡ entered h (by_porter Died) → DumpsLast h k
  last_at_once k is = (by_porter Died ∷ [], longer_one h k (by_porter Died) is, inr (inl refl))

  last_noted : (k : History) (note : Note) → k ≡ entered (noted h note) (by_porter Died) → DumpsLast h k
  last_noted k note is = (by_porter Died ∷ [], longer_noted h k note (by_porter Died) is, inr (inl refl))

-- A dump of the porter, as it was made.

abbrev cut_behind : History → Note → ℕ → History
cut_behind h a n = entered (noted h a) (by_porter (Cut n))

pub plays_made : (h m : History) (o : Option (List ℕ)) (x : Option LogFault) → HasDumped 0 {E = Wanted} h m (Ok x) → (now h).dead ≡ false → Plays dump_part h m o o
plays_made h m o None d alive = plays_dump h o (cut_behind h d.1 d.0) m d.1 d.0 refl d.2 true d.3 alive
plays_made h m o (Some fault) d alive = plays_dump h o (cut_behind h d.1 d.0) m d.1 d.0 refl d.2 false d.3 alive

pub breaks_made : (h m : History) (o : Option (List ℕ)) → Dies 0 h m → Breaks dump_part (by_porter Died ∷ []) h m o o
breaks_made h m o (died_first is) = dies_at_once h o m is
breaks_made h m o (died_begun a is) = dies_noted h o m a is
breaks_made h m o (died_cut n a is) = dies_cut h o (cut_behind h a n) m a n refl is
breaks_made h m o (died_ending n a b is) = dies_ending h o (cut_behind h a n) m a n refl b is

pub last_made : (h m : History) (x : Option LogFault) → HasDumped 0 {E = Wanted} h m (Ok x) → DumpsLast h m
last_made h m None d = last_dump h None (cut_behind h d.1 d.0) m d.1 d.0 refl d.2 true d.3
last_made h m (Some fault) d = last_dump h None (cut_behind h d.1 d.0) m d.1 d.0 refl d.2 false d.3

pub last_dead : (h m : History) → Dies 0 h m → DumpsLast h m
last_dead h m (died_first is) = last_at_once h None m is
last_dead h m (died_begun a is) = last_noted h None m a is
last_dead h m (died_cut n a is) = last_cut h None (cut_behind h a n) m a n refl is
last_dead h m (died_ending n a b is) = last_ending h None (cut_behind h a n) m a n refl b is

pub came_made : (h m : History) (x : Option LogFault) → HasDumped 0 {E = Wanted} h m (Ok x) → ComesOut h m x
came_made h m None d = came_stored h (cut_behind h d.1 d.0) m d.0 d.1 d.2 refl d.3
came_made h m (Some fault) d = came_failed h (cut_behind h d.1 d.0) m d.0 d.1 d.2 fault refl d.3

pub noted_made : (h m : History) (x : Option LogFault) → HasDumped 0 {E = Wanted} h m (Ok x) → IsNotedOn h m
noted_made h m None d = noted_then h (cut_behind h d.1 d.0) m (noted_more h _ d.1 _ refl) (noted_more (cut_behind h d.1 d.0) m d.2 _ d.3)
noted_made h m (Some fault) d = noted_then h (cut_behind h d.1 d.0) m (noted_more h _ d.1 _ refl) (noted_more (cut_behind h d.1 d.0) m d.2 _ d.3)

pub noted_dead : (h m : History) → Dies 0 h m → IsNotedOn h m
noted_dead h m (died_first is) = noted_one h m _ is
noted_dead h m (died_begun a is) = noted_more h m a _ is
noted_dead h m (died_cut n a is) = noted_then h (cut_behind h a n) m (noted_more h _ a _ refl) (noted_one (cut_behind h a n) m _ is)
noted_dead h m (died_ending n a b is) = noted_then h (cut_behind h a n) m (noted_more h _ a _ refl) (noted_more (cut_behind h a n) m b _ is)

pub idle_made : (h m : History) (x : Option LogFault) → HasDumped 0 {E = Wanted} h m (Ok x) → (now m).dumps.running ≡ None
idle_made h m None d = ended_idle (cut_behind h d.1 d.0) m d.2 0 d.0 true d.3
idle_made h m (Some fault) d = ended_idle (cut_behind h d.1 d.0) m d.2 0 d.0 false d.3

-- What is kept is the same, whatever want of memory is called.

module _ {D : Type 0} (seen : D → List ℕ) (moment : D → ℕ) (images : D → ℕ → List ℕ → Type 0) (faults : D → ℕ) (log : Option LogState) (f s : D) (mounted : ℕ) (h : History) where
  pub dumps_ok : (x : Option LogFault) → Dumps {E = Wanted} seen moment images faults log f s mounted h (Ok x) → Dumps {E = RunFault} seen moment images faults log f s mounted h (Ok x)
  dumps_ok x d = record { safe = d.safe; rests = d.rests; whole = d.whole; full = d.full; fault = d.fault; rose = d.rose }

  pub dumps_err : (x : Wanted) (y : RunFault) → Dumps {E = Wanted} seen moment images faults log f s mounted h (Err x) → Dumps {E = RunFault} seen moment images faults log f s mounted h (Err y)
  dumps_err x y d = record { safe = d.safe; rests = tt; whole = tt; full = tt; fault = tt; rose = tt }
