-- Which rule of permission denies an act.
use Rattle.std.specs.Prelude.{ℕ, suc, Bool, true, false, not, ◌&&◌, ◌||◌, ◌==◌, nat_lt, nat_le, if◌then◌else◌, List, [], ◌∷◌, Option, Some, None}
use Rattle.std.specs.Option.{option_map, option_map_or}
use Rattle.muck_model.specs.declared.dbref.Dbref.{Dbref}
use Rattle.muck_model.specs.declared.dbref.Denial.{Denial}
use Rattle.muck_prop.specs.declared.path.Class.{Class}
use Rattle.muck_prop.specs.declared.path.Class.TheVariants.{At, Tilde, Dot, Underscore, Plain}
use Rattle.muck_prop.specs.Paths.{class_of}
use Rattle.spec_live.specs.Flags.{has_flag, builder, chown, jump, link, wizard}
use Rattle.spec_live.specs.Objects.{Entry, nothing, home, same, is_program, object_at}
use Rattle.spec_rights.specs.declared.act.Actor.{Actor}
use Rattle.spec_rights.specs.declared.act.Act.{Act}
use Rattle.spec_rights.specs.declared.act.Act.TheVariants.{Shared, Start, Near, Read, Write, Move, Walk, Take, Link, NewRoom, NewThing, NewExit, NewProgram, Edit, Change, Rename, Password, Wizard, SetFlag, SetLevel, Recycle, SetOwner, EndProcess, Call}
use Rattle.spec_rights.specs.declared.rule.Rule.{Rule}
use Rattle.spec_rights.specs.declared.rule.Rule.TheVariants.{P1, P2, P3, P4, P5, P6, P7, P8, P9, P10, P11, P12, P13, P14, P15, P16, P17, P18, P19, P20, P21, P22, P23, P24}
use Rattle.spec_live.specs.Worth.{opens_at}
use Rattle.spec_rights.specs.Levels.{master, level_at, owner_at, flag_at, is_player_at, controls_as, effective}

-- Who may what.

abbrev pub is_master : Actor → Bool
is_master a = nat_le master a.level

-- the actor is at the highest level, or its user owns the object
unfoldable pub controls : List Entry → Actor → Dbref → Bool
controls es a d = controls_as es a.level a.user d

unfoldable pub controls_or : ℕ → List Entry → Actor → Dbref → Bool
controls_or flag es a d = controls es a d || flag_at flag es d

abbrev pub place_or_nothing : List Entry → Dbref → Dbref
place_or_nothing es d = option_map_or (λ o. o.place) (object_at d es) nothing

-- the object is the player, its place, in that place, or carried by the player
unfoldable pub is_near : List Entry → Dbref → Dbref → Bool
is_near es player d =
    let here = place_or_nothing es player in
    same d player || (same d here || (same (place_or_nothing es d) here || same (place_or_nothing es d) player))

-- Classes of paths.

abbrev pub is_hidden : Class → Bool
is_hidden At = true
is_hidden class = false

abbrev pub is_kept_class : Class → Bool
is_kept_class Tilde = true
is_kept_class class = false

abbrev pub is_private : Class → Bool
is_private Dot = true
is_private class = false

abbrev pub is_guarded : Class → Bool
is_guarded Dot = true
is_guarded Underscore = true
is_guarded class = false

abbrev pub is_plain : Class → Bool
is_plain Plain = true
is_plain class = false

-- The rules.

abbrev pub when : Bool → Dbref → Option Dbref
when denies d = if denies then Some d else None

-- below that level, and without control
abbrev pub is_below_level : ℕ → List Entry → Actor → Dbref → Bool
is_below_level level es a d = nat_lt a.level level && not (controls es a d)

-- a builder, or at level 3
abbrev pub may_build : List Entry → Actor → Bool
may_build es a = nat_le 3 a.level || flag_at builder es a.user

-- a place to which one may move
abbrev pub open_place : List Entry → Actor → Dbref → Bool
open_place es a to = nat_le 3 a.level || controls_or jump es a to

-- a target of a link; nothing and home are open
abbrev pub open_target : List Entry → Actor → Dbref → Bool
open_target es a to = same to nothing || (same to home || controls_or link es a to)

abbrev pub is_program_at : List Entry → Dbref → Bool
is_program_at es d = option_map_or (λ o. is_program o.kind) (object_at d es) false

-- the user owns it, or anyone may take it
abbrev pub may_take_over : List Entry → Actor → Dbref → Bool
may_take_over es a d = same (owner_at es d) a.user || flag_at chown es d

-- the object for which a rule denies an act, where it does
abbrev pub denied_object : Rule → List Entry → Actor → Act → Option Dbref
denied_object P1 es a (Shared level) = when (nat_lt a.level level) a.player
denied_object P1 es a (Start program) = when (effective es program == 0) program
denied_object P2 es a (Near d) = when (a.level == 1 && not (is_near es a.player d)) d
denied_object P3 es a (Read d path) = when (is_hidden (class_of path) && nat_lt a.level 4) d
denied_object P3 es a (Write d path) = when (is_hidden (class_of path) && nat_lt a.level 4) d
denied_object P4 es a (Write d path) = when (is_kept_class (class_of path) && nat_lt a.level 4) d
denied_object P5 es a (Read d path) = when (is_private (class_of path) && is_below_level 3 es a d) d
denied_object P6 es a (Write d path) = when (is_guarded (class_of path) && is_below_level 3 es a d) d
denied_object P7 es a (Write d path) = when (is_plain (class_of path) && is_below_level 2 es a d) d
denied_object P8 es a (Move d to) = when (is_below_level 3 es a d) d
denied_object P9 es a (Move d to) = when (not (same to home || open_place es a to)) to
denied_object P9 es a (NewThing place) = when (not (open_place es a place)) place
denied_object P10 es a (Walk exit) = when (not (opens_at es a.player exit)) exit
denied_object P10 es a (Take d) = when (not (opens_at es a.player d)) d
denied_object P11 es a (Take d) = when (not (same (place_or_nothing es d) (place_or_nothing es a.player))) d
denied_object P12 es a (Link d to) = when (not (controls es a d)) d
denied_object P13 es a (Link d to) = when (not (open_target es a to)) to
denied_object P13 es a (NewExit place to) = when (not (open_target es a to)) to
denied_object P14 es a (NewRoom place) = when (not (may_build es a)) a.player
denied_object P14 es a (NewThing place) = when (not (may_build es a)) a.player
denied_object P14 es a (NewExit place to) = when (not (may_build es a)) a.player
denied_object P15 es a (NewRoom place) = when (not (controls_or link es a place)) place
denied_object P15 es a (NewExit place to) = when (not (controls es a place)) place
denied_object P16 es a (Edit d) = when (not (controls es a d)) d
denied_object P16 es a (Change d) = when (not (controls es a d)) d
denied_object P16 es a (Rename d) = when (not (controls es a d)) d
denied_object P16 es a (SetFlag d flag) = when (not (controls es a d)) d
denied_object P16 es a (SetLevel d level) = when (not (controls es a d)) d
denied_object P17 es a (Rename d) = when (is_player_at es d && nat_lt a.level 4) d
denied_object P17 es a (Password d) = when (nat_lt a.level 4) d
denied_object P17 es a Wizard = when (nat_lt a.level 4) a.player
denied_object P18 es a (SetFlag d flag) = when (has_flag wizard flag && nat_lt a.level 4) d
denied_object P18 es a (SetLevel d level) = when (is_player_at es d && nat_lt a.level 4) d
denied_object P19 es a (SetLevel d level) = when (not (is_player_at es d || (is_program_at es d && nat_le level (level_at es a.user)))) d
denied_object P20 es a (Recycle d) = when (not (controls es a d)) d
denied_object P21 es a (SetOwner d owner) = when (nat_lt a.level 4 && not (may_take_over es a d && same owner a.user)) d
denied_object P22 es a NewProgram = when (level_at es a.user == 0) a.player
denied_object P22 es a (Edit d) = when (level_at es a.user == 0) d
denied_object P23 es a (EndProcess player program) = when (nat_lt a.level 4 && not (same player a.user || same (owner_at es program) a.user)) player
denied_object P24 es a (Call program) = when (not (controls_or link es a program)) program
denied_object rule es a act = None

abbrev pub or_else : {X : Type 0} → Option X → Option X → Option X
or_else None next = next
or_else (Some x) next = Some x

-- the rules, by their numbers from n on
abbrev pub first_denial : ℕ → List Rule → List Entry → Actor → Act → Option Denial
first_denial n [] es a act = None
first_denial n (rule ∷ rules) es a act =
    or_else (option_map (λ d. record { rule = n; object = d }) (denied_object rule es a act)) (first_denial (suc n) rules es a act)

abbrev pub rules : List Rule
rules = P1 ∷ P2 ∷ P3 ∷ P4 ∷ P5 ∷ P6 ∷ P7 ∷ P8 ∷ P9 ∷ P10 ∷ P11 ∷ P12 ∷ P13 ∷ P14 ∷ P15 ∷ P16 ∷ P17 ∷ P18 ∷ P19 ∷ P20 ∷ P21 ∷ P22 ∷ P23 ∷ P24 ∷ []

-- the denial by the first rule, in this order, that denies the act, with its number from 1 on; none where it is allowed
abbrev pub verdict : List Entry → Actor → Act → Option Denial
verdict es a act = first_denial 1 rules es a act
