-- The acts for which a primitive asks leave, in the order in which it asks.
use Rattle.std.specs.Prelude.{ℕ, if◌then◌else◌, is_some, List, [], ◌∷◌, ◌++◌, map, take, Option}
use Rattle.std.specs.Option.{option_map_or}
use Rattle.muck_model.specs.declared.dbref.Dbref.{Dbref}
use Rattle.muck_prop.specs.Paths.{segments_of}
use Rattle.spec_live.specs.Objects.{Entry, nothing, home, same, object_at}
use Rattle.spec_live.specs.Seen.{places_of}
use Rattle.spec_rights.specs.declared.act.Act.{Act}
use Rattle.spec_rights.specs.declared.act.Act.TheVariants.{Shared, Near, Read, Write, Move, Link, SetOwner, Rename, SetFlag, SetLevel, NewRoom as NewRoomAct, NewThing, NewExit as NewExitAct, Change as ChangeAct, Recycle as RecycleAct}
use Rattle.spec_commands.specs.declared.setting.Setting.{Setting}
use Rattle.spec_commands.specs.declared.setting.Setting.TheVariants.{Flag, NoFlag, Level}
use Rattle.spec_commands.specs.Settings.{setting_asked}
use Rattle.muf_model.specs.declared.needs.Need.{Need}
use Rattle.muf_model.specs.declared.prims.Primitive.{Primitive}
use Rattle.muf_model.specs.declared.prims.Primitive.TheVariants.{MoveTo, SetLink, SetOwn, Recycle, SetName, Set, SetLockStr, NewRoom, NewObject, NewExit, GetProp, GetPropStr, GetPropVal, IsPropDir, EnvProp, EnvPropStr, SetProp, AddProp, RemoveProp, ConBoot}
use Rattle.muf_model.specs.Datum.{Datum, text, object}
use Rattle.muf_model.specs.Needs.{Needs}
use Rattle.muf_model.specs.Ladder.{wanted}
use Rattle.muf_model.specs.Prims.{primitive_level, needs_of}
use Rattle.spec_prims.specs.Asking.{object_numbered}
use Rattle.spec_prims.specs.PropRows.{value_of}
use Rattle.spec_prims.specs.Shared.{items_taken}

-- What has to be near.

abbrev pub near_act : Need → Datum → List Act
near_act n (object d) = if n.near then Near (object_numbered d) ∷ [] else []
near_act n item = []

-- each item that has to be near, the top first
abbrev pub near_acts : List Need → List Datum → List Act
near_acts [] stack = []
near_acts (n ∷ ns) [] = []
near_acts (n ∷ ns) (x ∷ xs) = near_act n x ++ near_acts ns xs

abbrev pub near_of : Option Needs → List Datum → List Act
near_of needs stack = option_map_or (λ needs. near_acts (wanted needs stack) stack) needs []

-- Properties. The items are those that the primitive takes, the top first.

-- the property of an object is looked at
abbrev pub looks : List Datum → List Act
looks (text t ∷ object d ∷ []) = Read (object_numbered d) (segments_of t) ∷ []
looks items = []

-- of some objects those up to the first that has a value there
abbrev pub up_to_holder : List (List ℕ) → List Dbref → List Entry → List Dbref
up_to_holder path [] es = []
up_to_holder path (d ∷ ds) es = d ∷ (if is_some (value_of (object_at d es) path) then [] else up_to_holder path ds es)

-- ENVPROP: of the object and its places upward, up to the holder
abbrev pub looks_up : List Datum → List Entry → List Act
looks_up (text t ∷ object d ∷ []) es = map (λ e. Read e (segments_of t)) (up_to_holder (segments_of t) (object_numbered d ∷ places_of es (object_numbered d)) es)
looks_up items es = []

-- SETPROP, ADDPROP, REMOVE_PROP
abbrev pub puts : List Datum → List Act
puts (value ∷ text t ∷ object d ∷ []) = Write (object_numbered d) (segments_of t) ∷ []
puts items = []

abbrev pub adds : List Datum → List Act
adds (n ∷ u ∷ text t ∷ object d ∷ []) = Write (object_numbered d) (segments_of t) ∷ []
adds items = []

abbrev pub removes : List Datum → List Act
removes (text t ∷ object d ∷ []) = Write (object_numbered d) (segments_of t) ∷ []
removes items = []

-- Objects.

-- MOVETO: the place has to be near, unless it is home
abbrev pub move_acts : List Datum → List Act
move_acts (object to ∷ object x ∷ []) = (if same (object_numbered to) home then [] else Near (object_numbered to) ∷ []) ++ Move (object_numbered x) (object_numbered to) ∷ []
move_acts items = []

abbrev pub of_two : (Dbref → Dbref → Act) → List Datum → List Act
of_two act (object to ∷ object x ∷ []) = act (object_numbered x) (object_numbered to) ∷ []
of_two act items = []

abbrev pub of_one : (Dbref → Act) → List Datum → List Act
of_one act (object x ∷ []) = act (object_numbered x) ∷ []
of_one act items = []

-- a text for an object
abbrev pub of_named : (Dbref → Act) → List Datum → List Act
of_named act (text t ∷ object x ∷ []) = act (object_numbered x) ∷ []
of_named act items = []

abbrev pub setting_act : Dbref → Setting → Act
setting_act x (Flag flag) = SetFlag x flag
setting_act x (NoFlag flag) = SetFlag x flag
setting_act x (Level level) = SetLevel x level

abbrev pub sets : List Datum → List Act
sets (text t ∷ object x ∷ []) = option_map_or (λ setting. setting_act (object_numbered x) setting ∷ []) (setting_asked t) []
sets items = []

-- what a primitive asks for beside its level and what is near
abbrev pub own_acts : Primitive → List Datum → List Entry → List Act
own_acts GetProp items es = looks items
own_acts GetPropStr items es = looks items
own_acts GetPropVal items es = looks items
own_acts IsPropDir items es = looks items
own_acts EnvProp items es = looks_up items es
own_acts EnvPropStr items es = looks_up items es
own_acts SetProp items es = puts items
own_acts AddProp items es = adds items
own_acts RemoveProp items es = removes items
own_acts MoveTo items es = move_acts items
own_acts SetLink items es = of_two (λ x to. Link x to) items
own_acts SetOwn items es = of_two (λ x owner. SetOwner x owner) items
own_acts Recycle items es = of_one (λ x. RecycleAct x) items
own_acts SetName items es = of_named (λ x. Rename x) items
own_acts Set items es = sets items
own_acts SetLockStr items es = of_named (λ x. ChangeAct x) items
own_acts NewRoom items es = of_named (λ place. NewRoomAct place) items
own_acts NewObject items es = of_named (λ place. NewThing place) items
own_acts NewExit items es = of_named (λ place. NewExitAct place nothing) items
own_acts ConBoot items es = Shared 4 ∷ []
own_acts p items es = []

-- its level, what has to be near, and then its own
abbrev pub acts_with : Option Needs → ℕ → List Datum → List Act → List Act
acts_with needs level stack own = Shared level ∷ (near_of needs stack ++ own)

-- what a primitive of objects, of properties and of talk asks for at this stack
abbrev pub primitive_acts : Primitive → List Datum → List Entry → List Act
primitive_acts p stack es = acts_with (needs_of p) (primitive_level p) stack (own_acts p (take (items_taken p stack) stack) es)
