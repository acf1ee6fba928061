-- How the last dump of a run came out, and why the run ends by it.
use Rattle.std.proofs.Common.{◌≡◌, ℕ, Bool, true, false, if◌then◌else◌, List, [], ◌∷◌, refl, ap, subst, ◌∙◌, Option, Some, None, Result, Ok, Err}
use Rattle.muck_model.specs.declared.event.Event.TheVariants.{Halt, Died, Cut, Stored, DumpFailed}
use Rattle.muck_model.specs.declared.note.Note.{Note}
use Rattle.muck_log.specs.Store.{LogState}
use Rattle.muck_log.specs.declared.fault.LogFault.{LogFault}
use Rattle.muck_log.specs.declared.fault.LogFault.TheVariants.{NoMemory as LogMemory, Damaged as LogDamaged, Stale}
use Rattle.spec_events.specs.World.{World}
use Rattle.spec_events.specs.Histories.{History, after, now, entered, noted, Longer, by_porter}
use Rattle.spec_events.proofs.Living.{dead-effect}
use Rattle.spec_events.proofs.Runs.{now-longer, longer_on, longer_noted}
use Rattle.muck_script.specs.Story.{Part, dump_part}
use Rattle.muck_run.specs.Outcome.{halted}
use Rattle.muck_run.specs.inner.Dumps.{Dumps, IsDumpFault, ComesOut, ending_event}
use Rattle.muck_run.specs.inner.Ends.{EndsPlay, ComesOutAs, LastKept, MayEndDump}
use Rattle.muck_run.specs.inner.Plays.{Plays, Breaks, ending_of}
use Rattle.muck_run.specs.declared.playing.RunFault.{RunFault}
use Rattle.muck_run.specs.declared.playing.RunFault.TheVariants.{NoMemory as OutOfMemory, WriteFault as WriteFailed}
use Rattle.muck_why.specs.declared.why.Why.{Why}
use Rattle.muck_why.specs.declared.why.Why.TheVariants.{Fine, NoMemory}
use Rattle.muck_why.specs.Causes.{why_of}
use Rattle.muck_why.proofs.Causes.{never_fine, is_full, is_disk}

-- a dump that began came out

pub came_stored : (h k m : History) (n : ℕ) (before behind : Note) → k ≡ entered (noted h before) (by_porter (Cut n)) → m ≡ entered (noted k behind) (by_porter (ending_event n true)) → ComesOut h m None
came_stored h k m n before behind cuts ends = (n, longer_on h k m (by_porter (Cut n) ∷ []) (by_porter (Stored n) ∷ []) (longer_noted h k before _ cuts) (longer_noted k m behind _ ends))

pub came_failed : (h k m : History) (n : ℕ) (before behind : Note) (fault : LogFault) → k ≡ entered (noted h before) (by_porter (Cut n)) → m ≡ entered (noted k behind) (by_porter (ending_event n false)) → ComesOut h m (Some fault)
came_failed h k m n before behind fault cuts ends = (n, longer_on h k m (by_porter (Cut n) ∷ []) (by_porter (DumpFailed n) ∷ []) (longer_noted h k before _ cuts) (longer_noted k m behind _ ends))

-- how the last dump came out, by its fault
comes_by : (h k : History) (fault : LogFault) → ComesOut h k (Some fault) → ComesOutAs h k (why_of fault)
comes_by h k LogMemory came = tt
comes_by h k fault came = came

pub comes_failed : (h k : History) (o : Option LogFault) (fault : LogFault) → o ≡ Some fault → ComesOut h k o → ComesOutAs h k (why_of fault)
comes_failed h k o fault is came = comes_by h k fault (subst (λ (x : Option LogFault). ComesOut h k x) is came)

-- a dump that failed was played, but for want of memory
pub ends_by : (h k : History) (o : Option (List ℕ)) (fault : LogFault) → (fault ≡ LogMemory → ⊥) → Plays dump_part h k o o → EndsPlay h k o (why_of fault)
ends_by h k o LogMemory apart p = absurd (apart refl)
ends_by h k o fault apart p = p

may_answer : (tells : Bool) (fault : LogFault) → (tells ≡ true → IsDumpFault (Some fault)) → MayEndDump tells (why_of fault)
may_answer tells (LogDamaged second at) f = f
may_answer tells Stale f = f
may_answer tells fault f = tt

pub may_end : (tells : Bool) (o : Option LogFault) (fault : LogFault) → o ≡ Some fault → (tells ≡ true → IsDumpFault o) → MayEndDump tells (why_of fault)
may_end tells o fault is f = may_answer tells fault (λ on. subst (λ (x : Option LogFault). IsDumpFault x) is (f on))

-- want of memory broke it off
pub broke_memory : {T : Type 0} (f : Part) (h k : History) (a b : Option (List ℕ)) (fault : RunFault) → (let r : Result T RunFault = Err fault in r) ≡ Err OutOfMemory → Breaks f (ending_of fault) h k a b → Breaks f (by_porter Died ∷ []) h k a b
broke_memory f h k a b OutOfMemory e p = p
broke_memory f h k a b WriteFailed e p = cc

module _ {D : Type 0} (seen : D → List ℕ) (moment : D → ℕ) (images : D → ℕ → List ℕ → Type 0) (faults : D → ℕ) (log : Option LogState) (first second : D) (mounted : ℕ) (h : History) where
  abbrev Out : Result (Option LogFault) RunFault → Type 0
  Out r = Dumps seen moment images faults log first second mounted h r

  abbrev Last : Why → Type 0
  Last why = LastKept seen moment images faults first second mounted h why

  pub kept_stored : (o : Option LogFault) → o ≡ None → Out (Ok o) → Last Fine
  kept_stored o is d = record { safe = d.safe; whole = λ e. d.whole is; full = λ end more e. cc; failed = λ e. cc }

  pub kept_failed : (o : Option LogFault) (fault : LogFault) → o ≡ Some fault → Out (Ok o) → Last (why_of fault)
  kept_failed o fault is d = record {
    safe = d.safe;
    whole = λ e. absurd (never_fine fault e);
    full = λ end more e. d.full end more (is ∙ ap Some (is_full fault end more e));
    failed = λ e. d.rose (is ∙ ap Some (is_disk fault e));
  }

  pub kept_broken : (r : Result (Option LogFault) RunFault) → Out r → Last NoMemory
  kept_broken r d = record { safe = d.safe; whole = λ e. cc; full = λ end more e. cc; failed = λ e. cc }

-- the porter's halt takes no life
halt_lives : (w : World) (b : Bool) → w.dead ≡ false → (after w (if b then [] else by_porter Halt ∷ [])).dead ≡ false
halt_lives w true alive = alive
halt_lives w false alive = dead-effect w (by_porter Halt) refl ∙ alive

pub halted_lives : (h k : History) → Longer h k (halted (now h)) → (now h).dead ≡ false → (now k).dead ≡ false
halted_lives h k is alive = ap (λ (w : World). w.dead) (now-longer h k (halted (now h)) is) ∙ halt_lives (now h) (now h).stopping alive
