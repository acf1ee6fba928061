-- What a call for `debug` comes to.
use Rattle.std.specs.Prelude.{◌≡◌, ◌⊎◌, ℕ, ◌++◌, Bool, true, List, length, take, Option, Some, None, Ok, Err}
use Rattle.muck_io.specs.Sink.{Appends}
use Rattle.muck_io.specs.Faults.{Rose}
use Rattle.muck_model.specs.declared.event.Entry.{Entry}
use Rattle.muck_model.specs.declared.note.Note.{Note}
use Rattle.muck_log.specs.Store.{Chosen, store_of as stored_in}
use Rattle.spec_events.specs.World.{World}
use Rattle.muck_script.specs.Story.{Dumped, outcomes_of, story}
use Rattle.muf_debug.specs.Shown.{new_tracer}
use Rattle.muck_debugging.specs.declared.act.DebugAct.{DebugAct}
use Rattle.muck_debugging.specs.Grammar.{debug_script_of}
use Rattle.muck_debugging.specs.Seen.{text_of_all, plain_acts, debug_pieces, debug_text}
use Rattle.muck_debugging.specs.Laws.{AreApart}
use Rattle.muck_run.specs.Outcome.{IsReadOut, IsPending, EndsBy, IsUnbegun, HasBegun, EndsAs, EndsFull}
use Rattle.muck_why.specs.declared.why.Why.{Why}
use Rattle.muck_why.specs.declared.why.Why.TheVariants.{Fine, Usage, BadScript, NoMemory, ReadFault, WriteFault, DiskFault, Damaged, StoreFull}
use Rattle.muck_why.specs.Causes.{Ending, end_of}

-- what was left in the source is this script of `debug`, where the source tells its bytes
abbrev pub IsDebugScriptIn : Option (List ℕ) → List DebugAct → Type 0
IsDebugScriptIn None acts = Unit {0}
IsDebugScriptIn (Some bytes) acts = debug_script_of bytes ≡ Ok acts

-- the line of this number is the first that is outside the grammar of `debug`
abbrev pub IsFirstOutsideDebug : Option (List ℕ) → ℕ → Type 0
IsFirstOutsideDebug None line = Unit {0}
IsFirstOutsideDebug (Some bytes) line = debug_script_of bytes ≡ Err line

-- what was left in the source is a script of `debug`, and the source tells so
abbrev pub IsDebugScriptLeft : Option (List ℕ) → Type 0
IsDebugScriptLeft None = ⊥
IsDebugScriptLeft (Some bytes) = (acts : List DebugAct) × (debug_script_of bytes ≡ Ok acts)

-- what a call that has read its script says of the source
pub record HasReadDebugScript {S : Type 0} (left : S → Option (List ℕ)) (faults : S → ℕ) (before now : S) (acts : List DebugAct) : Type 0 where
  pub script : IsDebugScriptIn (left before) acts
  pub read : IsReadOut (left before) (left now)
  pub fine : faults now ≡ faults before

-- The script was played whole: what was written is its text, from a tracer that shows nothing yet. The lines of that text without `!` are the transcript of the
-- script without the four lines, and those with `!` are those of the units that are shown.
pub record WroteWhole (w : World) (acts : List DebugAct) (before written : Option (List ℕ)) (tale : List Entry) : Type 0 where
  pub history : tale ≡ story (plain_acts acts) (outcomes_of tale) w
  pub text : Appends before written (debug_text acts (outcomes_of tale) w new_tracer)
  pub apart : AreApart acts (outcomes_of tale) w new_tracer

-- It broke off behind this front of the story of the script without the four lines, as such a run ends; a front of the text of that front was written.
pub record WroteFront (w : World) (why : Why) (acts : List DebugAct) (before written : Option (List ℕ)) (tale : List Entry) : Type 0 where
  pub front : List Entry
  pub pending : List Dumped
  pub began : IsPending front pending
  pub whole : (later : List Dumped) → (rest : List Entry) × (front ++ rest ≡ story (plain_acts acts) (outcomes_of front ++ (pending ++ later)) w)
  pub ending : List Entry
  pub ends : EndsBy w why front ending
  pub history : tale ≡ front ++ ending
  pub told : List ℕ
  pub untold : List ℕ
  pub text : (later : List Dumped) → told ++ untold ≡ text_of_all (take (length front) (debug_pieces acts (outcomes_of front ++ (pending ++ later)) w new_tracer))
  pub appended : Appends before written told

-- what was written, by how it ended
abbrev pub WritesTo : World → Ending → List DebugAct → Option (List ℕ) → Option (List ℕ) → List Entry → Type 0
WritesTo w Ending.stored acts before written tale = WroteWhole w acts before written tale
WritesTo w Ending.failed acts before written tale = WroteWhole w acts before written tale
WritesTo w Ending.cut acts before written tale = WroteFront w WriteFault acts before written tale
WritesTo w Ending.died acts before written tale = WroteFront w NoMemory acts before written tale
WritesTo w end acts before written tale = ⊥

-- that by the answer
abbrev pub HasWrittenSeen : World → Why → List DebugAct → Option (List ℕ) → Option (List ℕ) → List Entry → Type 0
HasWrittenSeen w why acts before written tale = WritesTo w (end_of why) acts before written tale

-- A run of `debug` that began. All is so as after a run of `run` on the script without the four lines, on a source and to a sink that tell nothing; what the source held and
-- what was written are said apart.
pub record HasDebugged {S K D : Type 0} (left : S → Option (List ℕ)) (faults : S → ℕ) (written : K → Option (List ℕ)) (breaks : K → ℕ)
    (tells : Bool) (attached : D → Option (List ℕ)) (seen : D → List ℕ) (moment : D → ℕ) (images : D → ℕ → List ℕ → Type 0) (fails : D → ℕ) (store : List ℕ) (why : Why)
    (s t : S) (k l : K) (first second first' second' : D) (tale : List Entry) (notes : List Note) : Type 0 where
  pub run : HasBegun (λ _. None) faults (λ _. None) breaks tells attached seen moment images fails store why s t k l first second first' second' tale notes
  pub acts : List DebugAct
  pub read : HasReadDebugScript left faults s t acts
  pub plain : run.happened.acts ≡ plain_acts acts
  pub wrote : HasWrittenSeen run.start why acts (written k) (written l) tale

-- A call for `debug`, by its answer.
pub record DebugDone {S K D : Type 0} (left : S → Option (List ℕ)) (faults : S → ℕ) (written : K → Option (List ℕ)) (breaks : K → ℕ)
    (tells : Bool) (attached : D → Option (List ℕ)) (seen : D → List ℕ) (moment : D → ℕ) (images : D → ℕ → List ℕ → Type 0) (fails : D → ℕ) (store : List ℕ) (why : Why)
    (s t : S) (k l : K) (first second first' second' : D) (tale : List Entry) (notes : List Note) : Type 0 where
  -- it wasn't begun, or it was
  pub ends : EndsAs why (IsUnbegun tells seen moment images k l first second first' second' tale)
      (HasDebugged left faults written breaks tells attached seen moment images fails store why s t k l first second first' second' tale notes)
  -- each answer but `Fine` and want of memory has its cause
  pub usage : why ≡ Usage → ⊥
  pub bad_script : (line : ℕ) → why ≡ BadScript line → IsFirstOutsideDebug (left s) line
  pub read_fault : why ≡ ReadFault → Rose (faults s) (faults t)
  pub write_fault : why ≡ WriteFault → Rose (breaks k) (breaks l)
  pub disk_fault : why ≡ DiskFault → Rose (fails first) (fails first') ⊎ Rose (fails second) (fails second')
  pub damaged : (file : Bool) (at : ℕ) → tells ≡ true → why ≡ Damaged file at → stored_in (seen first) (seen second) ≡ Err (record { second = file; at = at })
  -- the first cause stands: no other fault of the source or the sink came, and the store was mounted before the script was read
  pub source_stands : (why ≡ ReadFault → ⊥) → faults t ≡ faults s
  pub sink_stands : (why ≡ WriteFault → ⊥) → breaks l ≡ breaks k
  pub unread : (file : Bool) (at : ℕ) → tells ≡ true → why ≡ Damaged file at → t ≡ s
  pub loads : tells ≡ true → (why ≡ ReadFault) ⊎ ((line : ℕ) × (why ≡ BadScript line)) → (chosen : Chosen) × (stored_in (seen first) (seen second) ≡ Ok chosen)
  -- where a store loads, the script is inside the grammar and no count rose, the work was done, or memory was wanted, or the last dump would pass what a file may have, on what the files hold
  pub complete : (chosen : Chosen) → tells ≡ true → stored_in (seen first) (seen second) ≡ Ok chosen → IsDebugScriptLeft (left s) → (Rose (faults s) (faults t) → ⊥) → (Rose (breaks k) (breaks l) → ⊥)
      → (Rose (fails first) (fails first') → ⊥) → (Rose (fails second) (fails second') → ⊥)
      → (why ≡ Fine) ⊎ ((why ≡ NoMemory) ⊎ ((end more : ℕ) × (why ≡ StoreFull end more) × EndsFull tells seen 0 first second first' second' tale notes end more))
