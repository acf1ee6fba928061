-- A part of a run: the entries that it makes happen, and what is written of them.
use Rattle.std.specs.Prelude.{◌≡◌, ℕ, false, List, [], ◌∷◌, ◌++◌, Option, Result, Ok, Err}
use Rattle.muck_io.specs.Sink.{Appends}
use Rattle.muck_model.specs.declared.event.Entry.{Entry}
use Rattle.muck_model.specs.declared.event.Event.TheVariants.{Died}
use Rattle.spec_events.specs.World.{World}
use Rattle.spec_events.specs.Histories.{History, now, Longer, by_porter}
use Rattle.muck_script.specs.Story.{Dumped, Part, outcomes_of, transcript_of}
use Rattle.muck_run.specs.Outcome.{IsPending}
use Rattle.muck_run.specs.declared.playing.RunFault.{RunFault}
use Rattle.muck_run.specs.declared.playing.RunFault.TheVariants.{NoMemory, WriteFault}

-- f says these entries of the world w, where the dumps among them come out as they say, and others later
abbrev pub Says : Part → World → List Entry → Type 0
Says f w es = (later : List Dumped) → f (outcomes_of es ++ later) w ≡ es

-- The entries that f says of the world as it was happened behind the history h, which is k now, and their text was
-- written. The world still lives.
pub record Plays (f : Part) (h k : History) (before written : Option (List ℕ)) : Type 0 where
  pub entries : List Entry
  pub said : Says f (now h) entries
  pub history : Longer h k entries
  pub text : Appends before written (transcript_of (now h) entries)
  pub alive : (now k).dead ≡ false

-- Only the first of those entries happened, and then the ending. Of the text of those that happened a front was written.
-- Where there is no ending the world still lives.
pub record Breaks (f : Part) (ending : List Entry) (h k : History) (before written : Option (List ℕ)) : Type 0 where
  pub front : List Entry
  pub pending : List Dumped
  pub began : IsPending front pending
  pub whole : (later : List Dumped) → (rest : List Entry) × (front ++ rest ≡ f (outcomes_of front ++ (pending ++ later)) (now h))
  pub history : Longer h k (front ++ ending)
  pub told : List ℕ
  pub untold : List ℕ
  pub text : told ++ untold ≡ transcript_of (now h) front
  pub appended : Appends before written told
  pub alive : ending ≡ [] → (now k).dead ≡ false

-- how a part ends that broke off
abbrev pub ending_of : RunFault → List Entry
ending_of NoMemory = by_porter Died ∷ []
ending_of WriteFault = []

-- a part of a run, by its answer
abbrev pub PlaysOrBreaks : {T : Type 0} → Part → History → History → Option (List ℕ) → Option (List ℕ) → Result T RunFault → Type 0
PlaysOrBreaks f h k before written (Ok _) = Plays f h k before written
PlaysOrBreaks f h k before written (Err fault) = Breaks f (ending_of fault) h k before written
