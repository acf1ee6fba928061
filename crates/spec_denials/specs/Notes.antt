-- What a formula asks for, and what it is denied.
use Rattle.std.specs.Prelude.{◌≡◌, ℕ, Bool, true, false, List, [], ◌∷◌, map, Option, Some, None, Ok, Err}
use Rattle.std.specs.Option.{option_map}
use Rattle.std.specs.Result.{result_map_both}
use Rattle.muck_model.specs.declared.dbref.Dbref.{Dbref}
use Rattle.muck_prop.specs.Paths.{segments_of}
use Rattle.spec_live.specs.Objects.{Entry}
use Rattle.spec_live.specs.Seen.{places_of}
use Rattle.spec_live.specs.Lives.{Live}
use Rattle.spec_rights.specs.declared.act.Actor.{Actor}
use Rattle.spec_rights.specs.declared.act.Act.{Act}
use Rattle.spec_rights.specs.declared.act.Act.TheVariants.{Read, Write}
use Rattle.mpi.specs.declared.fault.MpiFault.{MpiFault}
use Rattle.mpi.specs.declared.fault.MpiFault.TheVariants.{Denied as MpiDenied}
use Rattle.mpi.specs.declared.host.Ask.{Ask}
use Rattle.mpi.specs.declared.host.Ask.TheVariants as ask
use Rattle.mpi.specs.declared.host.Deed.{Deed}
use Rattle.mpi.specs.declared.host.Deed.TheVariants as deed
use Rattle.mpi.specs.Hosting.{Powers}
use Rattle.mpi.specs.Thoughts.{MindState}
use Rattle.mpi.specs.Variables.{Variables}
use Rattle.mpi.specs.Meaning.{text_unless, evaluated, scene_of}
use Rattle.muf_model.specs.declared.fault.MufFault.{MufFault}
use Rattle.muf_model.specs.declared.fault.MufFault.TheVariants.{Denied}
use Rattle.muf_model.specs.Datum.{Datum, int, text, object}
use Rattle.spec_mpi.specs.Stages.{MpiStage}
use Rattle.spec_mpi.specs.Telling.{MpiAnswer, tells_in}
use Rattle.spec_mpi.specs.Doing.{does_in, powers}
use Rattle.spec_mpi.specs.Messages.{variables_of}
use Rattle.spec_prims.specs.Asking.{object_numbered}
use Rattle.spec_denials.specs.Acts.{up_to_holder}
use Rattle.spec_denials.specs.Asked.{first_denied}

-- what a formula asks of the world: a question, or a deed
pub data Request : Type 0 where
  question : Ask → Request
  action : Deed → Request

-- the acts for which it asks leave: `{prop:}` of the object and its places upward, up to the holder
abbrev pub request_acts : Request → List Entry → List Act
request_acts (question (ask.Prop path d)) es = map (λ e. Read e (segments_of path)) (up_to_holder (segments_of path) (d ∷ places_of es d) es)
request_acts (question (ask.PropHere path d)) es = Read d (segments_of path) ∷ []
request_acts (question (ask.PropDir path d)) es = Read d (segments_of path) ∷ []
request_acts (action (deed.Store value path d)) es = Write d (segments_of path) ∷ []
request_acts (action (deed.DelProp path d)) es = Write d (segments_of path) ∷ []
request_acts request es = []

-- the rule by which the first of them is denied that is denied at all
abbrev pub denies : Actor → List Entry → Request → Option ℕ
denies a es request = first_denied es a (request_acts request es)

abbrev pub answer_of : Request → MpiStage → MpiAnswer
answer_of (question q) s = tells_in q s
answer_of (action d) s = text_unless [] (does_in d s).0

-- Where it is denied, it is so by this rule; and where it was answered, no rule denied.
abbrev pub AnswerNames : Option ℕ → MpiAnswer → Type 0
AnswerNames rule (Ok value) = rule ≡ None
AnswerNames rule (Err (MpiDenied n)) = rule ≡ Some n
AnswerNames rule (Err fault) = Unit {0}

-- Which request of a formula is denied. Denials may be numbered in any way: by what is asked, and by who acts in which world.
abbrev pub Numbering : Type 0
Numbering = Request → MpiStage → ℕ

abbrev pub renumbered : ℕ → MpiFault → MpiFault
renumbered k (MpiDenied n) = MpiDenied k
renumbered k fault = fault

-- as it is, but that denials are numbered so
abbrev pub powers_by : Numbering → Powers MpiStage
powers_by number = record powers {
  tells = λ q s. result_map_both (λ value. value) (renumbered (number (question q) s)) (tells_in q s);
  does = λ d s. (option_map (renumbered (number (action d) s)) (does_in d s).0, (does_in d s).1);
}

-- what a text of an object comes to for who acts
abbrev pub Formula : Type 0
Formula = Powers MpiStage → MpiAnswer × MindState MpiStage

abbrev pub formula : Actor → Dbref → List ℕ → Variables → Live → Formula
formula a this body vars w by = evaluated (scene_of by this) body (record { variables = vars; left = 0 }, record { actor = a; live = w })

-- The formula is denied a request in the world that it leaves, to who acts, by rule n: however denials are numbered, it ends by the number of this one.
pub record IsDenied (n : ℕ) (a : Actor) (run : Formula) : Type 0 where
  pub request : Request
  pub names : denies a (run powers).1.1.live.objects request ≡ Some n
  pub ends : (number : Numbering) → run (powers_by number) ≡ (Err (MpiDenied (number request (run powers).1.1)), (run powers).1)

-- the answer of a formula: where it is denied, it is so
abbrev pub FormulaNames : Actor → Formula → MpiAnswer → Type 0
FormulaNames a run (Err (MpiDenied n)) = IsDenied n a run
FormulaNames a run answer = Unit {0}

-- PARSEMPI: the formula at this stack is denied
abbrev pub ParseDenied : ℕ → Actor → List Datum → Live → Type 0
ParseDenied n a (int i ∷ text how ∷ text body ∷ object this ∷ rest) w = IsDenied n a (formula a (object_numbered this) body (variables_of how [] []) w)
ParseDenied n a stack w = ⊥

abbrev pub BrokeNames : Actor → List Datum → Live → MufFault → Type 0
BrokeNames a stack w (Denied n) = ParseDenied n a stack w
BrokeNames a stack w fault = Unit {0}

-- Nothing but a formula breaks off, and where that is by a denial, it is so.
abbrev pub Breaks : Bool → Actor → List Datum → Live → MufFault → Live → Type 0
Breaks true a stack w f v = BrokeNames a stack w f
Breaks false a stack w f v = ⊥
