-- What a message comes to.
use Rattle.std.specs.Prelude.{ℕ, List, ◌++◌, codes, decimal, Ok, Err}
use Rattle.std.specs.FinMap as map
use Rattle.muck_model.specs.declared.dbref.Dbref.{Dbref}
use Rattle.spec_live.specs.Lives.{Live}
use Rattle.spec_rights.specs.declared.act.Actor.{Actor}
use Rattle.mpi.specs.declared.fault.MpiFault.{MpiFault}
use Rattle.mpi.specs.declared.fault.MpiFault.TheVariants.{Unclosed, UnknownFunction, BadCount, BadValue, TooManyCommands, TooLong, Denied, NoMemory}
use Rattle.mpi.specs.Variables.{Variables}
use Rattle.mpi.specs.Meaning.{evaluated, scene_of}
use Rattle.spec_mpi.specs.Telling.{MpiAnswer}
use Rattle.spec_mpi.specs.Doing.{powers}

-- a text that an object carries is evaluated for who acts, where these variables are there: its value or its fault, and the world after it
unfoldable pub formula_heard : Actor → Dbref → List ℕ → Variables → Live → MpiAnswer × Live
formula_heard a this text vars w =
    let done = evaluated (scene_of powers this) text (record { variables = vars; left = 0 }, record { actor = a; live = w }) in
    (done.0, done.1.1.live)

-- the variables of a message: how it is called where it is spoken, and what was typed
unfoldable pub variables_of : List ℕ → List ℕ → List ℕ → Variables
variables_of how cmd arg = map.insert (map.insert (map.insert map.empty (codes "how") how) (codes "cmd") cmd) (codes "arg") arg

-- the numbers of the faults; want of memory isn't one of a text
abbrev pub fault_number : MpiFault → ℕ
fault_number Unclosed = 60
fault_number UnknownFunction = 61
fault_number BadCount = 62
fault_number BadValue = 63
fault_number TooManyCommands = 64
fault_number TooLong = 65
fault_number (Denied rule) = 66
fault_number NoMemory = 0

-- what is shown of it
unfoldable pub answer_shown : MpiAnswer → List ℕ
answer_shown (Ok text) = text
answer_shown (Err fault) = codes "MPI error " ++ (decimal (fault_number fault) ++ codes ".")

-- what is shown of a message, and the world after it
unfoldable pub message_spoken : Actor → Dbref → List ℕ → List ℕ → List ℕ → List ℕ → Live → List ℕ × Live
message_spoken a this how cmd arg text w =
    let done = formula_heard a this text (variables_of how cmd arg) w in
    (answer_shown done.0, done.1)
