-- A running program taken into its programs and its frame.
use Rattle.std.specs.Prelude.{◌≡◌, List, drop}
use Rattle.muf_model.specs.inner.Flat.{Flat, decode}
use Rattle.muf_model.specs.Source.{Source, locked_of, calls_running}
use Rattle.muf_frame.specs.inner.Shown.{locked_by, calls_by}
use Rattle.muf_running.specs.declared.entered.Entered.{Entered}
use Rattle.muf_running.specs.inner.Fitting.{codes_of, ProgramsFit}

-- the frame shows what the state has
pub record Shows (f : Flat) (s : Source) : Type 0 where
  pub stack : f.stack ≡ s.stack
  pub locked : locked_by f.marks ≡ locked_of s.marks
  pub calls : calls_by f.marks ≡ calls_running s.marks
  pub program : f.program ≡ s.program.number
  pub common : f.common ≡ s.common
  pub owned : f.owned ≡ s.owned
  pub variables : drop f.base f.variables ≡ s.variables

-- these programs and this frame are the process that stands at this state
abbrev pub Apart : List Entered → Flat → Source → Type 0
Apart es f s = ProgramsFit es f × (decode (codes_of es) f ≡ s)

-- a frame is another one with a stack and with variables of the process and of its programs of its own
abbrev pub Differs : Flat → Flat → Type 0
Differs f g = g ≡ record f { stack = g.stack; common = g.common; owned = g.owned }

-- the state with that stack and those variables
abbrev pub with_frame : Flat → Source → Source
with_frame g s = record s { stack = g.stack; common = g.common; owned = g.owned }

-- a frame that the programs were taken apart from, but for its stack and those variables
abbrev pub Rejoins : List Entered → Flat → Type 0
Rejoins es g = (f : Flat) × (s : Source) × Apart es f s × Differs f g
