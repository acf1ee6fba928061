-- Messages with what they come to, in the first world, where One stands in Room Zero, which carries them.
use Rattle.std.specs.Prelude.{◌≡◌, ℕ, List, Ok, Err, codes}
use Rattle.std.specs.FinMap as map
use Rattle.spec_live.specs.Objects.{dbref_of}
use Rattle.spec_live.specs.Boards.{first_tune, early_board}
use Rattle.spec_live.specs.Start.{first_objects}
use Rattle.spec_live.specs.Lives.{Live}
use Rattle.spec_rights.specs.declared.act.Actor.{Actor}
use Rattle.mpi.specs.declared.fault.MpiFault.TheVariants.{BadValue, Denied}
use Rattle.spec_mpi.specs.Telling.{MpiAnswer}
use Rattle.spec_mpi.specs.Messages.{formula_heard, message_spoken}

abbrev pub at_first : Live
at_first = record { objects = first_objects; board = early_board 0 first_tune }

-- One, by the rights of the player of that number
abbrev pub acting : ℕ → ℕ → Actor
acting level user = record { level = level; user = dbref_of user; player = dbref_of 1 }

-- what a text gives
abbrev pub given : Actor → List ℕ → MpiAnswer
given a text = (formula_heard a (dbref_of 0) text map.empty at_first).0

-- what is shown of it
abbrev pub seen : List ℕ → List ℕ
seen text = (message_spoken (acting 4 1) (dbref_of 0) (codes "(@desc)") (codes "look") (codes "at") text at_first).0

pub record Worked : Type 0 where
  pub names : given (acting 4 1) (codes "{name:me}{loc:me}{owner:this}") ≡ Ok (codes "One#0*One")
  pub lists : given (acting 4 1) (codes "{type}{contents}{exits}{flags:me}") ≡ Ok (codes "Room*OneW")
  pub tests : given (acting 1 7) (codes "{holds:me,here}{controls:me}") ≡ Ok (codes "10")
  pub hidden : given (acting 3 7) (codes "{prop:@x}") ≡ Err (Denied 3)
  pub kept : given (acting 1 1) (codes "{store:1,~x,me}") ≡ Err (Denied 4)
  pub private : given (acting 1 7) (codes "{prop:.x,me}") ≡ Err (Denied 5)
  pub guarded : given (acting 1 7) (codes "{store:1,_x}") ≡ Err (Denied 6)
  pub plain : given (acting 1 7) (codes "{store:1,x}") ≡ Err (Denied 7)
  pub paths : given (acting 4 1) (codes "{prop:a:b}") ≡ Err BadValue
  pub faults : seen (codes "{nosuch:1}") ≡ codes "MPI error 61."
