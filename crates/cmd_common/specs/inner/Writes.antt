-- What a write does, by which act it is asked, and where the world allows it.
use Rattle.std.specs.Prelude.{◌≡◌, ◌≤◌, Bool, true, false, length, Result, Ok, Err}
use Rattle.muck_prop.specs.Paths.{class_of}
use Rattle.muck_prop.specs.declared.value.PropValue.TheVariants.{Text}
use Rattle.spec_live.specs.declared.fault.DbFault.{DbFault}
use Rattle.spec_live.specs.declared.fault.DbFault.TheVariants.{NoMemory as WantsMemory}
use Rattle.spec_live.specs.Objects.{dbref_of, nothing}
use Rattle.spec_live.specs.Setting.{owner_check}
use Rattle.spec_live.specs.Recycling.{recycle_check}
use Rattle.spec_live.specs.Lives.{Live, Change}
use Rattle.spec_rights.specs.declared.act.Act.{Act}
use Rattle.spec_rights.specs.declared.act.Act.TheVariants.{Move, Link as LinkAct, Change as ChangeAct, Rename, Recycle as RecycleAct, SetOwner}
use Rattle.spec_rights.specs.Verdict.{is_guarded}
use Rattle.spec_rights.specs.Changing.{name_given, object_owned_by, property_stored, recycled_now}
use Rattle.spec_commands.specs.Going.{movable}
use Rattle.spec_commands.specs.Building.{allowed, is_still_there, may_tie, tied, meant_place, object_placed}
use Rattle.spec_commands.specs.Settings.{setting_act, may_set, set_so, is_setting}
use Rattle.muck_perm.specs.declared.guard.Guard.{Guard}
use Rattle.muck_perm.specs.inner.Guards.{Done}
use Rattle.cmd_common.specs.declared.writing.Write.{Write}
use Rattle.cmd_common.specs.declared.writing.Write.TheVariants.{Name, Owner, Place, Link, Unlink, Recycle, Keep, Set}

abbrev pub act_of : Write → Act
act_of (Name x name) = Rename x
act_of (Owner x owner) = SetOwner x owner
act_of (Place x to) = Move x to
act_of (Link x to) = LinkAct x to
act_of (Unlink x) = LinkAct x nothing
act_of (Recycle x) = RecycleAct x
act_of (Keep x path text) = ChangeAct x
act_of (Set x setting) = setting_act x setting

abbrev pub may : Write → Live → Bool
may (Name x name) = is_still_there x
may (Owner x owner) = λ w. allowed (owner_check x owner w.objects)
may (Place x to) = λ w. movable x (meant_place x to w) w
may (Link x to) = may_tie x to to
may (Unlink x) = may_tie x nothing (dbref_of 0)
may (Recycle x) = λ w. allowed (recycle_check x w.objects)
may (Keep x path text) = is_still_there x
may (Set x setting) = may_set x setting

abbrev pub change_of : Write → Change
change_of (Name x name) = name_given x name
change_of (Owner x owner) = object_owned_by x owner
change_of (Place x to) = object_placed x to
change_of (Link x to) = tied x to to
change_of (Unlink x) = tied x nothing (dbref_of 0)
change_of (Recycle x) = recycled_now x
change_of (Keep x path text) = property_stored x path (Text text)
change_of (Set x setting) = set_so x setting

-- a name is of 1 to 80 bytes, what is kept is kept at a guarded path, and a setting is of one flag
abbrev pub IsFit : Write → Type 0
IsFit (Name x name) = (1 ≤ length name) × (length name ≤ 80)
IsFit (Keep x path text) = is_guarded (class_of path) ≡ true
IsFit (Set x setting) = is_setting setting ≡ true
IsFit write = Unit {0}

-- it was done where the world allows it; else, and where memory was wanted, nothing
abbrev pub IsDone : Bool → Change → Guard → Guard → Result (Unit {0}) DbFault → Type 0
IsDone may f old new (Ok u) = (may ≡ true) × Done f old new
IsDone may f old new (Err WantsMemory) = new ≡ old
IsDone may f old new (Err fault) = (may ≡ false) × (new ≡ old)
