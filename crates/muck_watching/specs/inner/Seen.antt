-- A part of a run with a tracer: the entries that it makes happen, what is written of them and of their units, and what it makes of the tracer.
use Rattle.std.specs.Prelude.{◌≡◌, ℕ, true, false, List, [], ◌++◌, length, take, Option, Some, None, Result, Ok, Err}
use Rattle.std.specs.Option.{option_map_or}
use Rattle.std.specs.List.{flat_map}
use Rattle.muck_io.specs.Sink.{Appends, AppendsFront}
use Rattle.muck_model.specs.declared.event.Entry.{Entry}
use Rattle.muck_model.specs.declared.event.Event.TheVariants.{Died}
use Rattle.spec_events.specs.Histories.{History, now, entered, Longer, by_porter}
use Rattle.muck_script.specs.declared.act.Act.{Act}
use Rattle.muck_script.specs.Story.{Dumped, Part, outcomes_of, plain_part, line_story, lines_story}
use Rattle.muf_debug.specs.Shown.{Tracer, handed_out, with_break, without_break}
use Rattle.muck_debugging.specs.declared.act.DebugAct.{DebugAct}
use Rattle.muck_debugging.specs.declared.act.DebugAct.TheVariants.{Plain, Break, Clear, Trace}
use Rattle.muck_debugging.specs.Seen.{views_in, views_passed, SeenPiece, pieces_of, line_ended, text_of_all, units_of_all, plain_acts, debug_pieces}
use Rattle.muck_debugging.specs.Laws.{are_texts}
use Rattle.muck_run.specs.Outcome.{IsPending}
use Rattle.muck_run.specs.inner.Plays.{Says, ending_of}
use Rattle.muck_run.specs.declared.playing.RunFault.{RunFault}
use Rattle.muck_run.specs.declared.playing.RunFault.TheVariants.{NoMemory, WriteFault}
use Rattle.muck_why.specs.declared.why.Why.{Why}
use Rattle.muck_why.specs.declared.why.Why.TheVariants.{BadScript, NoMemory as OutOfMemory, ReadFault}
use Rattle.muck_watching.specs.Debugged.{IsFirstOutsideDebug}

-- why no script of `debug` was read
abbrev pub IsDebugWhy : Option (List ℕ) → Why → Type 0
IsDebugWhy left (BadScript line) = IsFirstOutsideDebug left line
IsDebugWhy left OutOfMemory = Unit {0}
IsDebugWhy left ReadFault = Unit {0}
IsDebugWhy left why = ⊥

-- nothing is kept, and memory wasn't wanted
pub record IsReady (t : Tracer) : Type 0 where
  pub empty : t.kept ≡ []
  pub whole : t.refused ≡ false

-- The lines that a tracer kept are handed out and written.
pub record HandsOut (t u : Tracer) (h k : History) (before written : Option (List ℕ)) : Type 0 where
  pub whole : t.refused ≡ false
  pub handed : u ≡ handed_out t
  pub still : k ≡ h
  pub texts : are_texts t.kept ≡ true
  pub text : Appends before written (flat_map line_ended t.kept)

-- only a front of them is written
pub record CutsOff (t : Tracer) (h k : History) (before written : Option (List ℕ)) : Type 0 where
  pub whole : t.refused ≡ false
  pub still : k ≡ h
  pub text : AppendsFront before written (flat_map line_ended t.kept)

-- so it goes, by the answer, or memory is wanted, as it may have been before
abbrev pub Shows : {T : Type 0} → Tracer → Tracer → History → History → Option (List ℕ) → Option (List ℕ) → Result T RunFault → Type 0
Shows t u h k before written (Ok _) = HandsOut t u h k before written
Shows t u h k before written (Err WriteFault) = CutsOff t h k before written
Shows t u h k before written (Err NoMemory) = (k ≡ entered h (by_porter Died)) × (written ≡ before)

-- The entries that f says happened, and their text with that of their units was written. The world still lives, and the tracer is behind them.
pub record PlaysSeen (f : Part) (t u : Tracer) (h k : History) (before written : Option (List ℕ)) : Type 0 where
  pub entries : List Entry
  pub said : Says f (now h) entries
  pub history : Longer h k entries
  pub text : Appends before written (text_of_all (pieces_of t (now h) entries))
  pub texts : are_texts (units_of_all (pieces_of t (now h) entries)) ≡ true
  pub tracer : u ≡ views_passed (views_in (now h) entries) t
  pub alive : (now k).dead ≡ false

-- Only the first of them happened, and then the ending; of the text of those a front was written.
pub record BreaksSeen (f : Part) (ending : List Entry) (t : Tracer) (h k : History) (before written : Option (List ℕ)) : Type 0 where
  pub front : List Entry
  pub pending : List Dumped
  pub began : IsPending front pending
  pub whole : (later : List Dumped) → (rest : List Entry) × (front ++ rest ≡ f (outcomes_of front ++ (pending ++ later)) (now h))
  pub history : Longer h k (front ++ ending)
  pub told : List ℕ
  pub untold : List ℕ
  pub text : told ++ untold ≡ text_of_all (pieces_of t (now h) front)
  pub appended : Appends before written told
  pub alive : ending ≡ [] → (now k).dead ≡ false

abbrev pub PlaysOrBreaksSeen : {T : Type 0} → Part → Tracer → Tracer → History → History → Option (List ℕ) → Option (List ℕ) → Result T RunFault → Type 0
PlaysOrBreaksSeen f t u h k before written (Ok _) = PlaysSeen f t u h k before written
PlaysOrBreaksSeen f t u h k before written (Err fault) = BreaksSeen f (ending_of fault) t h k before written

-- what a line asks of `run`
abbrev pub plain_of : DebugAct → Option Act
plain_of (Plain act) = Some act
plain_of (Break program line) = None
plain_of (Clear program line) = None
plain_of (Trace on) = None

-- nothing happens
abbrev pub nothing : Part
nothing = plain_part (λ w. [])

abbrev pub act_part : Option Act → Part
act_part act = option_map_or line_story act nothing

-- what one of the four lines makes of the tracer
abbrev pub commanded : DebugAct → Tracer → Tracer
commanded (Plain act) t = t
commanded (Break program line) t = with_break (record { program = program; line = line }) t
commanded (Clear program line) t = without_break (record { program = program; line = line }) t
commanded (Trace on) t = record t { on = on }

-- the same of a whole script, and of what breaks off of it
pub record PlaysLines (acts : List DebugAct) (t : Tracer) (h k : History) (before written : Option (List ℕ)) : Type 0 where
  pub entries : List Entry
  pub said : Says (lines_story (plain_acts acts)) (now h) entries
  pub history : Longer h k entries
  pub pieces : List SeenPiece
  pub made : (later : List Dumped) → debug_pieces acts (outcomes_of entries ++ later) (now h) t ≡ pieces
  pub text : Appends before written (text_of_all pieces)
  pub texts : are_texts (units_of_all pieces) ≡ true
  pub alive : (now k).dead ≡ false

pub record BreaksLines (acts : List DebugAct) (ending : List Entry) (t : Tracer) (h k : History) (before written : Option (List ℕ)) : Type 0 where
  pub front : List Entry
  pub pending : List Dumped
  pub began : IsPending front pending
  pub whole : (later : List Dumped) → (rest : List Entry) × (front ++ rest ≡ lines_story (plain_acts acts) (outcomes_of front ++ (pending ++ later)) (now h))
  pub history : Longer h k (front ++ ending)
  pub told : List ℕ
  pub untold : List ℕ
  pub text : (later : List Dumped) → told ++ untold ≡ text_of_all (take (length front) (debug_pieces acts (outcomes_of front ++ (pending ++ later)) (now h) t))
  pub appended : Appends before written told
  pub alive : ending ≡ [] → (now k).dead ≡ false

abbrev pub PlaysOrBreaksLines : {T : Type 0} → List DebugAct → Tracer → History → History → Option (List ℕ) → Option (List ℕ) → Result T RunFault → Type 0
PlaysOrBreaksLines acts t h k before written (Ok _) = PlaysLines acts t h k before written
PlaysOrBreaksLines acts t h k before written (Err fault) = BreaksLines acts (ending_of fault) t h k before written
