-- What is set of an object by a word: a flag or a level; and the command that sets it, or a property.
use Rattle.std.specs.Prelude.{ℕ, ◌-◌, Bool, true, ◌==◌, ◌||◌, ◌&&◌, nat_le, if◌then◌else◌, List, [], ◌∷◌, codes, Option, Some, None}
use Rattle.std.specs.Option.{option_map, option_map_or}
use Rattle.std.specs.List.{list_any, before_first, after_first}
use Rattle.std.specs.Char.{to_ascii_uppercase}
use Rattle.muck_model.specs.declared.dbref.Dbref.{Dbref}
use Rattle.muck_model.specs.declared.dbref.Flags.{Flags}
use Rattle.muck_prop.specs.declared.path.PropFault.{PropFault}
use Rattle.muck_prop.specs.declared.value.PropValue.TheVariants.{Text}
use Rattle.muck_prop.specs.Paths.{path_fault, segments_of}
use Rattle.spec_live.specs.Flags.{flag_of, no_flags, with_flag, without_flag}
use Rattle.spec_live.specs.Objects.{Entry, object_at}
use Rattle.spec_live.specs.Setting.{flags_check, level_check}
use Rattle.spec_live.specs.Lives.{Live, Change, tell}
use Rattle.spec_rights.specs.declared.act.Actor.{Actor}
use Rattle.spec_rights.specs.declared.act.Act.{Act}
use Rattle.spec_rights.specs.declared.act.Act.TheVariants.{Write, SetFlag, SetLevel}
use Rattle.spec_rights.specs.Changing.{is_flag, flag_set, flag_cleared, leveled, property_stored}
use Rattle.spec_commands.specs.declared.setting.Setting.{Setting}
use Rattle.spec_commands.specs.declared.setting.Setting.TheVariants.{Flag, NoFlag, Level}
use Rattle.spec_commands.specs.Replies.{cant_be_done, flag_reply, property_reply}
use Rattle.spec_commands.specs.Building.{allowed, is_still_there, change_by_leave}

-- What a word asks.

-- the flag of a letter, in any case
abbrev pub flag_lettered : ℕ → Option Flags
flag_lettered letter =
    if list_any (λ other. other == to_ascii_uppercase letter) (codes "ABCDHJKLQSVWXZ") then Some (record { 0 = flag_of (to_ascii_uppercase letter) }) else None

-- the level of a digit
abbrev pub level_digit : ℕ → Option Setting
level_digit digit = if nat_le 48 digit && nat_le digit 51 then Some (Level (digit - 48)) else None

-- one letter sets its flag, with a `!` before it clears it, and `M0` to `M3` give a level
unfoldable pub setting_asked : List ℕ → Option Setting
setting_asked (letter ∷ []) = option_map Flag (flag_lettered letter)
setting_asked (sign ∷ letter ∷ []) =
    if sign == 33 then option_map NoFlag (flag_lettered letter)
    else (if sign == 77 || sign == 109 then level_digit letter else None)
setting_asked word = None

-- it speaks of one flag, where it speaks of flags
abbrev pub is_setting : Setting → Bool
is_setting (Flag flag) = is_flag flag
is_setting (NoFlag flag) = is_flag flag
is_setting (Level level) = true

-- What it does.

-- the act by which it is asked
abbrev pub setting_act : Dbref → Setting → Act
setting_act x (Flag flag) = SetFlag x flag
setting_act x (NoFlag flag) = SetFlag x flag
setting_act x (Level level) = SetLevel x level

abbrev pub flags_now : Dbref → List Entry → Flags
flags_now x es = option_map_or (λ o. o.flags) (object_at x es) no_flags

-- where the world allows it
abbrev pub may_set : Dbref → Setting → Live → Bool
may_set x (Flag flag) w = allowed (flags_check x (with_flag flag.0 (flags_now x w.objects)) w.objects)
may_set x (NoFlag flag) w = allowed (flags_check x (without_flag flag.0 (flags_now x w.objects)) w.objects)
may_set x (Level level) w = allowed (level_check x level w.objects)

abbrev pub set_so : Dbref → Setting → Change
set_so x (Flag flag) = flag_set x flag
set_so x (NoFlag flag) = flag_cleared x flag
set_so x (Level level) = leveled x level

-- The command.

abbrev pub word_set : ℕ → Actor → Dbref → Option Setting → Change
word_set d a x (Some setting) = change_by_leave d a (setting_act x setting) (may_set x setting) (set_so x setting) flag_reply
word_set d a x None = tell d cant_be_done

-- a value is kept at a path that a text writes; the empty one removes what is there
abbrev pub property_set : ℕ → Actor → Dbref → List (List ℕ) → List ℕ → Option PropFault → Change
property_set d a x path value None = change_by_leave d a (Write x path) (is_still_there x) (property_stored x path (Text value)) property_reply
property_set d a x path value (Some fault) = tell d cant_be_done

abbrev pub is_colon : ℕ → Bool
is_colon b = b == 58

abbrev pub has_colon : List ℕ → Bool
has_colon text = list_any is_colon text

-- what stands before the first colon, and what stands behind it
abbrev pub path_part : List ℕ → List ℕ
path_part text = before_first is_colon text

abbrev pub value_part : List ℕ → List ℕ
value_part text = after_first is_colon text

-- `@set`: with a colon a property, and else what the word asks
unfoldable pub assigned : ℕ → Actor → Dbref → List ℕ → Change
assigned d a x text =
    if has_colon text then property_set d a x (segments_of (path_part text)) (value_part text) (path_fault (path_part text))
    else word_set d a x (setting_asked text)
