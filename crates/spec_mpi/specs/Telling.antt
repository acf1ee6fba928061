-- What formulas are told of the world.
use Rattle.std.specs.Prelude.{ℕ, Bool, true, false, List, [], ◌∷◌, drop, option_map, codes, Option, Some, None, Result, Ok, Err}
use Rattle.std.specs.List.{flat_map}
use Rattle.std.specs.Option.{option_map_or, option_and_then}
use Rattle.std.specs.FinMap.{get}
use Rattle.muck_model.specs.declared.dbref.Dbref.{Dbref}
use Rattle.muck_model.specs.declared.dbref.Kind.{Kind}
use Rattle.muck_model.specs.declared.dbref.Kind.TheVariants.{Room, Thing, Exit, Player, Program, Garbage}
use Rattle.muck_match.specs.declared.naming.Found.{Found}
use Rattle.muck_match.specs.declared.naming.Found.TheVariants.{One}
use Rattle.muck_match.specs.Naming.{thing_found}
use Rattle.muck_prop.specs.declared.value.PropValue.{PropValue}
use Rattle.muck_prop.specs.Paths.{path_fault, segments_of}
use Rattle.muck_prop.specs.Store.{is_dir}
use Rattle.spec_live.specs.declared.object.Object.{Object}
use Rattle.spec_live.specs.Objects.{Entry, same, is_player, object_at}
use Rattle.spec_live.specs.Seen.{scenery_of, listed_in, places_of, flag_letters}
use Rattle.spec_live.specs.Worth.{value_text}
use Rattle.spec_rights.specs.declared.act.Actor.{Actor}
use Rattle.spec_rights.specs.declared.act.Act.{Act}
use Rattle.spec_rights.specs.declared.act.Act.TheVariants.{Read}
use Rattle.spec_rights.specs.Verdict.{verdict, controls}
use Rattle.mpi.specs.declared.fault.MpiFault.{MpiFault}
use Rattle.mpi.specs.declared.fault.MpiFault.TheVariants.{BadValue, Denied}
use Rattle.mpi.specs.declared.host.Ask.{Ask}
use Rattle.mpi.specs.declared.host.Ask.TheVariants as ask
use Rattle.mpi.specs.Made.{text_or_long}
use Rattle.mpi.specs.Meaning.{reference}
use Rattle.mpi.specs.Values.{truth_text}
use Rattle.spec_mpi.specs.Stages.{MpiStage}

abbrev pub MpiAnswer : Type 0
MpiAnswer = Result (List ℕ) MpiFault

-- Objects by name.

abbrev pub one_found : Found → Option Dbref
one_found (One d) = Some d
one_found found = None

-- the one object that a text means for who acts
unfoldable pub finds_in : List ℕ → MpiStage → Option Dbref
finds_in text s = one_found (thing_found (scenery_of s.live.objects) s.actor.player text)

-- How objects are written: a player as `*NAME`, all else as `#N`.

abbrev player_or_reference : Dbref → Bool → List ℕ → List ℕ
player_or_reference d true name = 42 ∷ name
player_or_reference d false name = reference d

unfoldable pub sign_in : List Entry → Dbref → List ℕ
sign_in es d = option_map_or (λ o. player_or_reference d (is_player o.kind) o.name) (object_at d es) (reference d)

-- as a list: each behind a byte 13, but for the first
unfoldable pub signs_in : List Entry → List Dbref → List ℕ
signs_in es ds = drop 1 (flat_map (λ d. 13 ∷ sign_in es d) ds)

abbrev pub kind_name : Kind → List ℕ
kind_name Room = codes "Room"
kind_name Thing = codes "Thing"
kind_name Exit = codes "Exit"
kind_name Player = codes "Player"
kind_name Program = codes "Program"
kind_name Garbage = []

-- Properties.

abbrev pub fault_told : {A : Type 0} → MpiFault → Result A MpiFault
fault_told f = Err f

-- the path that a text writes, if it writes one
unfoldable pub path_written_in : List ℕ → Option (List (List ℕ))
path_written_in text = option_map_or (λ fault. None) (path_fault text) (Some (segments_of text))

-- what is done there
abbrev pub at_written_path : {A : Type 0} → (MpiFault → A) → (List (List ℕ) → A) → List ℕ → A
at_written_path fails go text = option_map_or go (path_written_in text) (fails BadValue)

-- what is done by leave
abbrev pub mpi_by_leave : {A : Type 0} → (MpiFault → A) → List Entry → Actor → Act → A → A
mpi_by_leave fails es a act go = option_map_or (λ denial. fails (Denied denial.rule)) (verdict es a act) go

abbrev pub value_of : Option Object → List (List ℕ) → Option PropValue
value_of o path = option_and_then (λ o. get o.props path) o

-- the text of a property, where there is one, by leave
unfoldable pub property_text_at : List Entry → Actor → List (List ℕ) → Dbref → Result (Option (List ℕ)) MpiFault
property_text_at es a path d = mpi_by_leave fault_told es a (Read d path) (Ok (option_map value_text (value_of (object_at d es) path)))

abbrev pub first_told : Result (Option (List ℕ)) MpiFault → MpiAnswer → MpiAnswer
first_told (Ok (Some text)) next = Ok text
first_told (Ok None) next = next
first_told (Err fault) next = Err fault

-- the first of some objects that has one, each looked at by leave
unfoldable pub first_text : List Entry → Actor → List (List ℕ) → List Dbref → MpiAnswer
first_text es a path [] = Ok []
first_text es a path (d ∷ ds) = first_told (property_text_at es a path d) (first_text es a path ds)

-- whether properties stand below
unfoldable pub below_at : List Entry → Actor → Dbref → List (List ℕ) → MpiAnswer
below_at es a d path = mpi_by_leave fault_told es a (Read d path) (Ok (truth_text (option_map_or (λ o. is_dir path o.props) (object_at d es) false)))

-- The answers.

-- of an object that is there
abbrev pub of_object : (Object → MpiAnswer) → Dbref → List Entry → MpiAnswer
of_object f d es = option_map_or f (object_at d es) (Err BadValue)

abbrev pub told_by : List Entry → Actor → Ask → MpiAnswer
told_by es a (ask.Name d) = of_object (λ o. Ok o.name) d es
told_by es a (ask.Loc d) = of_object (λ o. Ok (sign_in es o.place)) d es
told_by es a (ask.Owner d) = of_object (λ o. Ok (sign_in es o.owner)) d es
told_by es a (ask.Kind d) = of_object (λ o. Ok (kind_name o.kind)) d es
told_by es a (ask.Flags d) = of_object (λ o. Ok (flag_letters o.flags)) d es
told_by es a (ask.Contents d) = of_object (λ o. text_or_long (signs_in es (listed_in false d es))) d es
told_by es a (ask.Exits d) = of_object (λ o. text_or_long (signs_in es (listed_in true d es))) d es
told_by es a (ask.Holds d p) = of_object (λ o. Ok (truth_text (same o.place p))) d es
told_by es a (ask.Controls d) = of_object (λ o. Ok (truth_text (controls es a d))) d es
told_by es a (ask.Prop path d) = of_object (λ o. at_written_path fault_told (λ p. first_text es a p (d ∷ places_of es d)) path) d es
told_by es a (ask.PropHere path d) = of_object (λ o. at_written_path fault_told (λ p. first_text es a p (d ∷ [])) path) d es
told_by es a (ask.PropDir path d) = of_object (λ o. at_written_path fault_told (below_at es a d) path) d es

unfoldable pub tells_in : Ask → MpiStage → MpiAnswer
tells_in question s = told_by s.live.objects s.actor question
