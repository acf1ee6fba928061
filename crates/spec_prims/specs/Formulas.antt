-- PARSEMPI: a formula in a program.
use Rattle.std.specs.Prelude.{ℕ, ℤ, Bool, true, false, List, [], ◌∷◌, if◌then◌else◌, Ok, Err}
use Rattle.spec_live.specs.Objects.{Entry}
use Rattle.spec_live.specs.Lives.{Live}
use Rattle.spec_rights.specs.declared.act.Actor.{Actor}
use Rattle.spec_commands.specs.Finding.{actor_of}
use Rattle.mpi.specs.declared.fault.MpiFault.{MpiFault}
use Rattle.mpi.specs.declared.fault.MpiFault.TheVariants.{Denied as MpiDenied}
use Rattle.spec_mpi.specs.Telling.{MpiAnswer}
use Rattle.spec_mpi.specs.Messages.{formula_heard, variables_of}
use Rattle.muf_model.specs.declared.fault.MufFault.{MufFault}
use Rattle.muf_model.specs.declared.fault.MufFault.TheVariants.{BadType, BadArgument, Denied}
use Rattle.muf_model.specs.declared.prims.Primitive.{Primitive}
use Rattle.muf_model.specs.declared.prims.Primitive.TheVariants.{ParseMpi}
use Rattle.muf_model.specs.Datum.{Datum, int, text, object}
use Rattle.spec_prims.specs.Asking.{object_numbered}
use Rattle.spec_prims.specs.Row.{WorldAnswer, gives, refuses, breaks}

-- A denial keeps its rule.
abbrev pub fault_in_program : MpiFault → MufFault
fault_in_program (MpiDenied rule) = Denied rule
fault_in_program fault = BadArgument

-- Its value is given. Where it has a fault, what it changed before stays.
abbrev pub formula_answered : MpiAnswer → Live → WorldAnswer
formula_answered (Ok value) w = gives (text value ∷ []) w
formula_answered (Err fault) w = breaks (fault_in_program fault) w

-- The formula of an object is evaluated for the player whose process it is, who acts by the rights of a player's command, whatever
-- the program may do. `&how` is the text upon it, `&cmd` and `&arg` are empty; the integer at the top is ignored.
unfoldable pub formula_parsed : Actor → List ℕ → List ℕ → ℤ → Live → WorldAnswer
formula_parsed a how formula this w =
    let done = formula_heard (actor_of w.objects a.player) (object_numbered this) formula (variables_of how [] []) w in
    formula_answered done.0 done.1

abbrev pub parse_done : Actor → List Datum → Live → WorldAnswer
parse_done a (int i ∷ text how ∷ text formula ∷ object this ∷ []) w = formula_parsed a how formula this w
parse_done a items w = refuses BadType

-- whether it is this primitive
abbrev pub is_formula : Primitive → Bool
is_formula ParseMpi = true
is_formula p = false

-- Who answers for what a primitive changes: who acts in the program; but for what a formula changes the player.
abbrev pub answers_for : Primitive → Actor → List Entry → Actor
answers_for p a es = if is_formula p then actor_of es a.player else a
