-- What a primitive that reaches the world does.
use Rattle.std.specs.Prelude.{List, ◌++◌, length, nat_lt, if◌then◌else◌, Option, Some, None}
use Rattle.spec_live.specs.Lives.{Live}
use Rattle.spec_rights.specs.declared.act.Actor.{Actor}
use Rattle.muf_model.specs.declared.fault.MufFault.{MufFault}
use Rattle.muf_model.specs.declared.fault.MufFault.TheVariants.{StackFull}
use Rattle.muf_model.specs.Datum.{Datum}
use Rattle.muf_model.specs.Answer.{stack_most}

-- It gives these items, the top first, and leaves this world; or it is refused, and nothing has changed; or it breaks off by a
-- fault behind what it changed, and leaves this world.
pub data WorldAnswer : Type 0 where
  gives : List Datum → Live → WorldAnswer
  refuses : MufFault → WorldAnswer
  breaks : MufFault → Live → WorldAnswer

-- What an actor does by it with the items that it takes, the top first: the fault that its own rule for its arguments finds in
-- them, where it finds one, and else what it gives.
pub record WorldDoing : Type 0 where
  pub argued : Actor → List Datum → Live → Option MufFault
  pub does : Actor → List Datum → Live → WorldAnswer

-- one that has no rule for its arguments
abbrev pub unruled : (Actor → List Datum → Live → WorldAnswer) → WorldDoing
unruled does = record { argued = λ a items w. None; does = does }

-- where a test has no fault
abbrev pub row_unless : Option MufFault → WorldAnswer → WorldAnswer
row_unless None row = row
row_unless (Some f) row = refuses f

-- what it gives comes upon the rest of the stack, where there is room
abbrev pub given_upon : List Datum → WorldAnswer → WorldAnswer
given_upon rest (gives items w) = if nat_lt stack_most (length (items ++ rest)) then refuses StackFull else gives (items ++ rest) w
given_upon rest (refuses f) = refuses f
given_upon rest (breaks f w) = breaks f w
