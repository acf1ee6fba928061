-- What a dump of a run comes to.
use Rattle.std.specs.Prelude.{◌≡◌, ℕ, List, ◌++◌, Option, Some, None, Result, Err}
use Rattle.muck_model.specs.declared.event.Entry.{Entry}
use Rattle.muck_model.specs.declared.note.Note.{Note}
use Rattle.muck_log.specs.Store.{LogState}
use Rattle.muck_log.specs.declared.fault.LogFault.{LogFault}
use Rattle.spec_events.specs.Histories.{History, Longer}
use Rattle.spec_dumps.specs.inner.Holding.{Rests}
use Rattle.spec_dumps.specs.Survival.{IsSafe}
use Rattle.muck_script.specs.Story.{stored, failed, dump_entries}
use Rattle.muck_run.specs.Outcome.{IsLastDump}
use Rattle.muck_run.specs.declared.playing.RunFault.{RunFault}
use Rattle.muck_run.specs.declared.playing.RunFault.TheVariants.{NoMemory as OutOfMemory}
-- what is said of a dump that is made at once, whoever makes it
pub use Rattle.muck_dumping.specs.inner.Dumps.{note_of, ending_event, IsDumpFault, IsFull, Dumps}

-- What is kept of both disks behind a part of a run, by its answer.
pub record Held {D T : Type 0} (seen : D → List ℕ) (moment : D → ℕ) (images : D → ℕ → List ℕ → Type 0) (faults : D → ℕ) (log : Option LogState) (first second : D) (mounted : ℕ) (h : History) (r : Result T RunFault) : Type 0 where
  pub safe : IsSafe moment images faults first second h.start mounted h.entries h.notes
  pub rests : (r ≡ Err OutOfMemory → ⊥) → Rests seen moment images faults log first second mounted h

-- A dump was made, or memory was wanted for it.
abbrev pub DumpsLast : History → History → Type 0
DumpsLast h k = (es : List Entry) × Longer h k es × IsLastDump es

-- how a dump came out, by the fault that it answers
abbrev pub ComesOut : History → History → Option LogFault → Type 0
ComesOut h k None = (n : ℕ) × Longer h k (dump_entries (stored n))
ComesOut h k (Some fault) = (n : ℕ) × Longer h k (dump_entries (failed n))

-- k has the notes of h, and others behind them
pub record IsNotedOn (h k : History) : Type 0 where
  pub since : List Note
  pub notes : k.notes ≡ h.notes ++ since
