-- What the primitives of processes take.
use Rattle.std.specs.Prelude.{ℕ, List, ◌∷◌, ℤ, Option, Some, None}
use Rattle.muck_model.specs.declared.dbref.Dbref.{Dbref}
use Rattle.spec_live.specs.Lives.{Live}
use Rattle.spec_rights.specs.declared.act.Actor.{Actor}
use Rattle.muf_model.specs.declared.fault.MufFault.TheVariants.{BadType}
use Rattle.muf_model.specs.Datum.{Datum, int, text, object}
use Rattle.spec_processes.specs.ProcessRows.{Effect, refuses, program_entering}

-- a number, a program and the text upon them
abbrev pub started_in : List Datum → Option (ℤ × ℤ × List ℕ)
started_in (text t ∷ object d ∷ int i ∷ rest) = Some (i, d, t)
started_in stack = None

-- a number, the text upon it and anything upon that
abbrev pub sent_in : List Datum → Option (ℤ × List ℕ × Datum)
sent_in (value ∷ text t ∷ int i ∷ rest) = Some (i, t, value)
sent_in stack = None

-- a word of a program is entered, where that is one item
abbrev pub entering_at : Live → Actor → Option Dbref → Option (List ℕ) → Effect
entering_at w a None name = refuses BadType
entering_at w a (Some d) name = program_entering w a d.0 name
