-- What a primitive asked for, by what came of it.
use Rattle.std.specs.Prelude.{◌≡◌, ◌⊎◌, ℕ, List, [], ◌∷◌, Option, Some, None}
use Rattle.std.specs.Option.{option_map, option_or}
use Rattle.muck_model.specs.declared.dbref.Dbref.{Dbref}
use Rattle.muck_prop.specs.Paths.{path_text}
use Rattle.spec_live.specs.Objects.{Entry}
use Rattle.spec_live.specs.Lives.{Live}
use Rattle.spec_rights.specs.declared.act.Actor.{Actor}
use Rattle.spec_rights.specs.declared.act.Act.{Act}
use Rattle.spec_rights.specs.declared.act.Act.TheVariants.{Read}
use Rattle.spec_rights.specs.Verdict.{verdict}
use Rattle.muf_model.specs.declared.fault.MufFault.{MufFault}
use Rattle.muf_model.specs.declared.fault.MufFault.TheVariants.{Denied}
use Rattle.muf_model.specs.Datum.{Datum, text, object}
use Rattle.spec_prims.specs.Asking.{object_numbered}
use Rattle.spec_prims.specs.Row.{WorldAnswer, gives, refuses, breaks}

-- the rule by which the first of these acts is denied that is denied at all; none where each is allowed
abbrev pub first_denied : List Entry → Actor → List Act → Option ℕ
first_denied es a [] = None
first_denied es a (act ∷ acts) = option_or (option_map (λ d. d.rule) (verdict es a act)) (first_denied es a acts)

-- a fault that is a denial is the one of this rule
abbrev pub FaultNames : Option ℕ → MufFault → Type 0
FaultNames rule (Denied n) = rule ≡ Some n
FaultNames rule fault = Unit {0}

-- Where it is denied, it is so by this rule; and where it went on, no rule denied. Where it broke off, it had leave for what it asked for before that, and this holds of its fault.
abbrev pub RowNames : (MufFault → Live → Type 0) → Option ℕ → WorldAnswer → Type 0
RowNames Broke rule (gives items w) = rule ≡ None
RowNames Broke rule (refuses f) = FaultNames rule f
RowNames Broke rule (breaks f w) = (rule ≡ None) × Broke f w

-- a name that is listed is none, or that of a property of the object which the actor may read
abbrev pub IsListed : Actor → List Entry → Dbref → List ℕ → Type 0
IsListed a es d name = (name ≡ []) ⊎ ((path : List (List ℕ)) × (name ≡ path_text path) × (verdict es a (Read d path) ≡ None))

abbrev pub NameListed : Actor → List Entry → List Datum → List Datum → Type 0
NameListed a es (text t ∷ object d ∷ rest) (text name ∷ others) = IsListed a es (object_numbered d) name
NameListed a es stack given = Unit {0}

-- what NEXTPROP gives is listed so
abbrev pub RowLists : Actor → List Entry → List Datum → WorldAnswer → Type 0
RowLists a es stack (gives items w) = NameListed a es stack items
RowLists a es stack row = Unit {0}
