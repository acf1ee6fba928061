-- A drill: a fixed script on the starting world, and what is written of it.
use Rattle.std.specs.Prelude.{◌≡◌, ◌⊎◌, ℕ, zero, suc, not, List, [], ◌∷◌, ◌++◌, length, codes, Option}
use Rattle.std.specs.Fmt.{decimal}
use Rattle.std.specs.List.{filter, count_by}
use Rattle.muck_io.specs.Sink.{Appends, AppendsFront}
use Rattle.muck_io.specs.Faults.{Rose}
use Rattle.muck_model.specs.declared.event.Entry.{Entry}
use Rattle.muck_model.specs.declared.event.Event.TheVariants.{Died}
use Rattle.spec_live.specs.Objects.{is_garbage}
use Rattle.spec_events.specs.World.{World, starting_world}
use Rattle.spec_events.specs.Histories.{after, by_porter, AllLawful}
use Rattle.muck_script.specs.declared.act.Act.{Act}
use Rattle.muck_script.specs.declared.act.Act.TheVariants.{Open, Send, Wait}
use Rattle.muck_script.specs.Lines.{is_line_feed}
use Rattle.muck_script.specs.Story.{Dumped, outcomes_of, lines_story, transcript}
use Rattle.muck_run.specs.Outcome.{IsPending}
use Rattle.muck_why.specs.declared.why.Why.{Why}
use Rattle.muck_why.specs.declared.why.Why.TheVariants.{Fine, NoMemory, WriteFault}

-- how the thing of this number is described
unfoldable pub describing : ℕ → List ℕ
describing i = codes "@describe thing " ++ decimal i ++ codes "=A thing of {add:" ++ decimal i ++ codes "," ++ decimal i ++ codes "}."

-- the round of this number: a room and a thing are made, and the thing is described, looked at and dropped
unfoldable pub round : ℕ → List Act
round i =
    Send 1 (codes "@dig Room " ++ decimal i)
    ∷ Send 1 (codes "@create thing " ++ decimal i)
    ∷ Send 1 (describing i)
    ∷ Send 1 (codes "look thing " ++ decimal i)
    ∷ Send 1 (codes "drop thing " ++ decimal i)
    ∷ []

-- the rounds from 1 to this one
unfoldable pub rounds : ℕ → List Act
rounds zero = []
rounds (suc n) = rounds n ++ round (suc n)

-- One comes in, the rounds follow, and then a second passes
abbrev pub drill_script : ℕ → List Act
drill_script n = Open 1 ∷ Send 1 (codes "connect One potrzebie") ∷ (rounds n ++ Wait 1 ∷ [])

-- `drill N: A objects, B lines, C bytes`: how many objects there are in the end, and how many lines and bytes the transcript has
unfoldable pub summary : ℕ → ℕ → List ℕ → List ℕ
summary n objects text =
    codes "drill " ++ decimal n ++ codes ": " ++ decimal objects ++ codes " objects, "
    ++ decimal (length (filter is_line_feed text)) ++ codes " lines, " ++ decimal (length text) ++ (codes " bytes" ++ 10 ∷ [])

-- The tale of a drill that was played whole: the story of its script in the starting world, where dumps come out as the tale says.
pub record IsDrilled (n : ℕ) (tale : List Entry) : Type 0 where
  pub lawful : AllLawful starting_world tale
  pub story : tale ≡ lines_story (drill_script n) (outcomes_of tale) starting_world

-- These entries are a front of that story, however the dumps behind them would have come out; a dump that began in them and didn't come out
-- counts as stored.
pub record IsDrillFront (n : ℕ) (front : List Entry) : Type 0 where
  pub pending : List Dumped
  pub began : IsPending front pending
  pub whole : (later : List Dumped) → (rest : List Entry) × (front ++ rest ≡ lines_story (drill_script n) (outcomes_of front ++ (pending ++ later)) starting_world)

-- The tale of a drill that broke off for want of memory: a front of its story happened, and then Died.
pub record BrokeDrill (n : ℕ) (tale : List Entry) : Type 0 where
  pub lawful : AllLawful starting_world tale
  pub front : List Entry
  pub is : IsDrillFront n front
  pub history : tale ≡ front ++ by_porter Died ∷ []

-- how many objects there are, without garbage
abbrev pub objects_in : World → ℕ
objects_in w = count_by (λ e. not (is_garbage e.object.kind)) w.live.objects

-- what is written of it
abbrev pub drill_text : ℕ → List Entry → List ℕ
drill_text n tale = summary n (objects_in (after starting_world tale)) (transcript (drill_script n) (outcomes_of tale) starting_world)

-- What a drill comes to, by the answer, with the count of faults of the sink: its summary was written, or a front of it, or nothing. Where memory was
-- wanted for the world itself nothing happened.
abbrev pub HasDrilled : {K : Type 0} → (K → Option (List ℕ)) → (K → ℕ) → ℕ → Why → K → K → List Entry → Type 0
HasDrilled written faults n Fine before now tale = IsDrilled n tale × Appends (written before) (written now) (drill_text n tale) × (faults now ≡ faults before)
HasDrilled written faults n WriteFault before now tale = IsDrilled n tale × AppendsFront (written before) (written now) (drill_text n tale) × Rose (faults before) (faults now)
HasDrilled written faults n NoMemory before now tale = (now ≡ before) × ((tale ≡ []) ⊎ BrokeDrill n tale)
HasDrilled written faults n why before now tale = ⊥
