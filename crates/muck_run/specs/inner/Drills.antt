-- A drill that was played.
use Rattle.std.specs.Prelude.{◌≡◌, ◌⊎◌, ℕ, true, false, List, [], ◌∷◌, ◌++◌, None}
use Rattle.muck_model.specs.declared.event.Entry.{Entry}
use Rattle.muck_model.specs.declared.event.Event.TheVariants.{Died}
use Rattle.spec_events.specs.World.{starting_world}
use Rattle.spec_events.specs.Histories.{History, now, by_porter}
use Rattle.muck_script.specs.declared.act.Act.{Act}
use Rattle.muck_script.specs.Story.{Dumped, outcomes_of, lines_story, transcript}
use Rattle.muck_run.specs.Drill.{drill_script, drill_text, IsDrillFront}
use Rattle.muck_why.specs.declared.why.Why.{Why}
use Rattle.muck_why.specs.declared.why.Why.TheVariants.{Fine, NoMemory, WriteFault}

-- the starting world, in which nothing has happened
abbrev pub fresh : History
fresh = record { start = starting_world; entries = []; notes = []; counted = None }

-- these acts were played into the starting world, however dumps behind them would come out, and this text was written of it
pub record IsPlayedAs (acts : List Act) (h : History) (text : List ℕ) : Type 0 where
  pub start : h.start ≡ starting_world
  pub said : (later : List Dumped) → lines_story acts (outcomes_of h.entries ++ later) starting_world ≡ h.entries
  pub story : h.entries ≡ lines_story acts (outcomes_of h.entries) starting_world
  pub told : text ≡ transcript acts (outcomes_of h.entries) starting_world
  pub alive : (now h).dead ≡ false

-- and that is its summary
pub record IsDrilledAs (n : ℕ) (h : History) (text : List ℕ) : Type 0 where
  pub start : h.start ≡ starting_world
  pub story : h.entries ≡ lines_story (drill_script n) (outcomes_of h.entries) starting_world
  pub written : text ≡ drill_text n h.entries

-- Memory was wanted behind these entries of a drill: the world found that itself, and is dead, or it still lives.
abbrev pub IsWanted : History → List Entry → Type 0
IsWanted h front = ((h.entries ≡ front) × ((now h).dead ≡ false)) ⊎ ((h.entries ≡ front ++ by_porter Died ∷ []) × ((now h).dead ≡ true))

-- A drill broke off there.
pub record IsCutShort (n : ℕ) (h : History) : Type 0 where
  pub start : h.start ≡ starting_world
  pub front : List Entry
  pub is : IsDrillFront n front
  pub wanted : IsWanted h front

-- and Died stands behind them
pub record IsDrillDead (n : ℕ) (h : History) : Type 0 where
  pub start : h.start ≡ starting_world
  pub front : List Entry
  pub is : IsDrillFront n front
  pub entries : h.entries ≡ front ++ by_porter Died ∷ []

-- why a drill ends
abbrev pub MayDrill : Why → Type 0
MayDrill Fine = Unit {0}
MayDrill NoMemory = Unit {0}
MayDrill WriteFault = Unit {0}
MayDrill why = ⊥
