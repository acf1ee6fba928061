-- What each rule denies and what it lets pass, by examples.
use Rattle.std.specs.Prelude.{◌≡◌, ℕ, pos, Bool, true, false, not, List, [], ◌∷◌, codes, Option, Some, None, refl}
use Rattle.std.specs.Option.{option_map, option_map_or}
use Rattle.std.specs.FinMap.{get, insert, empty, get-insert, get-empty}
use Rattle.std.proofs.Common.{ap}
use Rattle.muck_model.specs.declared.dbref.Dbref.{Dbref}
use Rattle.muck_model.specs.declared.dbref.Denial.{Denial}
use Rattle.muck_model.specs.declared.dbref.Flags.{Flags}
use Rattle.muck_prop.specs.Order.{path_cmp, path_cmp_total}
use Rattle.muck_prop.specs.Store.{PropMap}
use Rattle.muck_prop.specs.declared.value.PropValue.{PropValue}
use Rattle.muck_prop.specs.declared.value.PropValue.TheVariants.{Number}
use Rattle.spec_live.specs.Flags.{builder, wizard}
use Rattle.spec_live.specs.Objects.{dbref_of, Entry, nothing, home, object_at, number_in, kind_in, object_in}
use Rattle.spec_live.specs.Start.{room_zero, player_one}
use Rattle.spec_live.specs.Worth.{kept_opens, opens_at}
use Rattle.spec_rights.specs.declared.act.Actor.{Actor}
use Rattle.spec_rights.specs.declared.act.Act.{Act}
use Rattle.spec_rights.specs.declared.act.Act.TheVariants.{Shared, Start, Near, Read, Write, Move, Walk, Take, Link, NewRoom, NewThing, NewExit, NewProgram, Edit, Change, Rename, Password, Wizard, SetFlag, SetLevel, Recycle, SetOwner, EndProcess, Call}
use Rattle.spec_rights.specs.Levels.{level_at, owner_at, flag_at, is_player_at, owns, controls_as, effective}
use Rattle.spec_rights.specs.Verdict.{controls, controls_or, is_near, when, or_else, verdict}
use Rattle.spec_rights.specs.inner.Town.{town, one, two, three, for_two}

-- the rule of this number denies it, for the object of that number
abbrev Denies : ℕ → ℕ → Actor → Act → Type 0
Denies rule object a act = verdict town a act ≡ Some (record { rule = rule; object = dbref_of object })

abbrev Allows : Actor → Act → Type 0
Allows a act = verdict town a act ≡ None

-- the rule that denies it
abbrev rule_of : Actor → Act → Option ℕ
rule_of a act = option_map (λ d. d.rule) (verdict town a act)

abbrev n : ℕ → Dbref
n k = dbref_of k

abbrev path : List ℕ → List (List ℕ)
path text = text ∷ []

abbrev w : Flags
w = record { 0 = wizard }

abbrev b : Flags
b = record { 0 = builder }

unfoldable pub Reaching : Type 0
Reaching =
    -- P1: a primitive above the actor's level; a program of level 0
    Denies 1 2 (two 1) (Shared 2)
    × Denies 1 2 (two 2) (Shared 3)
    × Denies 1 2 (two 3) (Shared 4)
    × Allows (two 1) (Shared 1)
    × Allows (two 2) (Shared 2)
    × Allows (two 3) (Shared 3)
    × Allows one (Shared 4)
    × Denies 1 9 one (Start (n 9))
    × Allows (three 1) (Start (n 8))
    -- P2: what isn't near, at level 1
    × Denies 2 3 (two 1) (Near (n 3))
    × Denies 2 11 (two 1) (Near (n 11))
    × Allows (two 2) (Near (n 3))
    × Allows (two 1) (Near (n 2))
    × Allows (two 1) (Near (n 0))
    × Allows (two 1) (Near (n 7))
    × Allows (two 1) (Near (n 6))
    -- P3: properties of class `@`, below level 4
    × Denies 3 6 (two 3) (Read (n 6) (path (codes "@a")))
    × Denies 3 6 (two 3) (Write (n 6) (path (codes "@a")))
    × Allows (two 4) (Read (n 7) (path (codes "@a")))
    × Allows (two 4) (Write (n 7) (path (codes "@a")))
    -- P4: writing those of class `~`, below level 4
    × Denies 4 6 (two 3) (Write (n 6) (path (codes "~a")))
    × Allows (two 4) (Write (n 7) (path (codes "~a")))
    × Allows (two 1) (Read (n 7) (path (codes "~a")))
    -- P5: reading those of class `.` of what isn't one's own, below level 3
    × Denies 5 7 (two 2) (Read (n 7) (path (codes ".a")))
    × Allows (two 3) (Read (n 7) (path (codes ".a")))
    × Allows (two 1) (Read (n 6) (path (codes ".a")))
    × Allows (two 1) (Read (n 7) (path (codes "_a")))
    × Allows (two 1) (Read (n 7) (path (codes "a")))
    -- P6: writing those of class `.` or `_`, likewise
    × Denies 6 7 (two 2) (Write (n 7) (path (codes ".a")))
    × Denies 6 7 (two 2) (Write (n 7) (path (codes "_a")))
    × Allows (two 3) (Write (n 7) (path (codes ".a")))
    × Allows (two 3) (Write (n 7) (path (codes "_a")))
    × Allows (two 1) (Write (n 6) (path (codes ".a")))
    -- P7: writing plain ones, below level 2
    × Denies 7 7 (two 1) (Write (n 7) (path (codes "a")))
    × Allows (two 2) (Write (n 7) (path (codes "a")))
    × Allows (two 1) (Write (n 6) (path (codes "a")))

unfoldable pub Moving : Type 0
Moving =
    -- P8: moving what isn't one's own, below level 3
    Denies 8 7 (two 2) (Move (n 7) (n 4))
    × Allows (two 3) (Move (n 7) (n 5))
    × Allows (two 1) (Move (n 6) (n 4))
    -- P9: to a place that is neither one's own nor has J, below level 3; home is open
    × Denies 9 5 (two 2) (Move (n 6) (n 5))
    × Denies 9 5 (two 2) (NewThing (n 5))
    × Allows (two 3) (Move (n 6) (n 5))
    × Allows (two 1) (Move (n 6) (n 2))
    × Allows (two 1) (Move (n 6) home)
    × Allows (two 1) (NewThing (n 4))
    -- P10: what is locked, also for a wizard; the player counts, and not whom it acts for
    × Denies 10 10 (two 3) (Walk (n 10))
    × Denies 10 7 (two 3) (Take (n 7))
    × Denies 10 10 one (Walk (n 10))
    × Denies 10 7 one (Take (n 7))
    × Allows (two 1) (Walk (n 12))
    × ((es : List Entry) (a : Actor) (d : Dbref) → opens_at es a.player d ≡ false → verdict es a (Walk d) ≡ Some (record { rule = 10; object = d }))
    × ((es : List Entry) (a : Actor) (d : Dbref) → opens_at es a.player d ≡ true → verdict es a (Walk d) ≡ None)
    -- P11: taking what lies elsewhere
    × Denies 11 6 one (Take (n 6))
    × Denies 11 11 (two 1) (Take (n 11))
    × Allows (three 1) (Take (n 11))
    -- P12: linking what isn't one's own
    × Denies 12 7 (two 3) (Link (n 7) (n 5))
    × Denies 12 7 (two 3) (Link (n 7) nothing)
    × Allows (two 1) (Link (n 6) (n 5))
    × Allows one (Link (n 6) (n 4))
    -- P13: to what is neither one's own nor has L; home and nothing are open
    × Denies 13 4 (two 3) (Link (n 6) (n 4))
    × Denies 13 4 (two 3) (NewExit (n 6) (n 4))
    × Allows (two 1) (Link (n 6) (n 2))
    × Allows (two 1) (Link (n 6) home)
    × Allows (two 1) (Link (n 6) nothing)
    × Allows (two 1) (NewExit (n 6) nothing)

unfoldable pub Making : Type 0
Making =
    -- P14: making without B, below level 3; whom it acts for counts
    Denies 14 3 (three 2) (NewRoom (n 5))
    × Denies 14 3 (three 2) (NewThing (n 4))
    × Denies 14 3 (three 2) (NewExit (n 9) nothing)
    × Allows (three 3) (NewRoom (n 5))
    × Allows (two 1) (NewRoom (n 5))
    × Allows (for_two 1) (NewRoom (n 5))
    -- P15: a room below what is neither one's own nor has L, an exit of what isn't one's own
    × Denies 15 4 (two 3) (NewRoom (n 4))
    × Denies 15 5 (two 3) (NewExit (n 5) nothing)
    × Allows one (NewRoom (n 4))
    × Allows (two 1) (NewExit (n 6) (n 5))
    -- P16: changing what isn't one's own
    × Denies 16 7 (two 3) (Change (n 7))
    × Denies 16 7 (two 3) (Rename (n 7))
    × Denies 16 7 (two 3) (SetFlag (n 7) b)
    × Denies 16 9 (two 3) (SetLevel (n 9) 1)
    × Denies 16 9 (two 3) (Edit (n 9))
    × Allows (two 1) (Change (n 6))
    × Allows (two 1) (Rename (n 6))
    × Allows (two 1) (SetFlag (n 6) b)
    × Allows one (Change (n 6))
    -- P17: a player's name, passwords, and what wizards alone may do
    × Denies 17 2 (two 3) (Rename (n 2))
    × Denies 17 2 (two 3) (Password (n 2))
    × Denies 17 2 (two 3) Wizard
    × Allows one (Rename (n 2))
    × Allows one (Password (n 2))
    × Allows one Wizard
    -- P18: W, and the level of a player
    × Denies 18 6 (two 3) (SetFlag (n 6) w)
    × Denies 18 2 (two 3) (SetLevel (n 2) 1)
    × Allows one (SetFlag (n 6) w)
    × Allows one (SetLevel (n 2) 3)
    -- P19: a level above that of whom it acts for, and a level of what is neither program nor player
    × Denies 19 8 (two 1) (SetLevel (n 8) 3)
    × Denies 19 8 (two 4) (SetLevel (n 8) 3)
    × Denies 19 6 one (SetLevel (n 6) 1)
    × Allows (two 1) (SetLevel (n 8) 2)
    × Allows one (SetLevel (n 8) 3)

unfoldable pub Ending : Type 0
Ending =
    -- P20: recycling what isn't one's own
    Denies 20 5 (two 3) (Recycle (n 5))
    × Denies 20 7 (two 3) (Recycle (n 7))
    × Allows (two 1) (Recycle (n 6))
    × Allows one (Recycle (n 6))
    -- P21: taking what is neither one's own nor has C, and giving away
    × Denies 21 5 (two 3) (SetOwner (n 5) (n 2))
    × Denies 21 6 (two 3) (SetOwner (n 6) (n 3))
    × Denies 21 7 (two 3) (SetOwner (n 7) (n 3))
    × Allows (two 1) (SetOwner (n 7) (n 2))
    × Allows (two 1) (SetOwner (n 6) (n 2))
    × Allows one (SetOwner (n 6) (n 3))
    -- P22: making and editing programs for whom has level 0
    × Denies 22 3 (three 3) NewProgram
    × Denies 22 9 (three 3) (Edit (n 9))
    × Allows (two 1) NewProgram
    × Allows (two 1) (Edit (n 8))
    × Allows one (Edit (n 8))
    -- P23: ending another's process of another's program
    × (rule_of (two 3) (EndProcess (n 3) (n 9)) ≡ Some 23)
    × Allows (two 1) (EndProcess (n 2) (n 9))
    × Allows (two 1) (EndProcess (n 3) (n 8))
    × Allows one (EndProcess (n 3) (n 9))
    -- P24: calling a program that is neither one's own nor has L
    × Denies 24 9 (two 3) (Call (n 9))
    × Allows (three 1) (Call (n 9))
    × Allows (three 1) (Call (n 8))
    × Allows one (Call (n 9))
    -- the first of several rules
    × Denies 3 7 (two 1) (Write (n 7) (path (codes "@a")))
    × Denies 8 7 (two 1) (Move (n 7) (n 5))
    × Denies 10 7 (three 1) (Take (n 7))
    × Denies 13 4 (three 1) (NewExit (n 4) (n 4))
    × Denies 16 2 (three 3) (Rename (n 2))
    × Denies 16 8 (three 3) (Edit (n 8))

-- Locks of the town.

abbrev lock_path : List (List ℕ)
lock_path = codes "_" ∷ codes "lok" ∷ []

abbrev shut_props : PropMap
shut_props = insert empty lock_path (Number (pos 3))

shut_lock : get shut_props lock_path ≡ Some (Number (pos 3))
shut_lock = get-insert path_cmp_total empty lock_path (Number (pos 3)) lock_path

abbrev no_props : PropMap
no_props = empty

no_lock : get no_props lock_path ≡ None
no_lock = get-empty path_cmp lock_path

abbrev opens_by : Dbref → Option PropValue → Bool
opens_by x lock = option_map_or (kept_opens town x) lock true

shut_exit : (x : Dbref) → opens_at town x (n 10) ≡ false
unfolding opens_at object_at number_in kind_in object_in room_zero player_one
shut_exit x = ap (opens_by x) shut_lock

shut_lamp : (x : Dbref) → opens_at town x (n 7) ≡ false
unfolding opens_at object_at number_in kind_in object_in room_zero player_one
shut_lamp x = ap (opens_by x) shut_lock

free_exit : (x : Dbref) → opens_at town x (n 12) ≡ true
unfolding opens_at object_at number_in kind_in object_in room_zero player_one
free_exit x = ap (opens_by x) no_lock

free_ball : (x : Dbref) → opens_at town x (n 6) ≡ true
unfolding opens_at object_at number_in kind_in object_in room_zero player_one
free_ball x = ap (opens_by x) no_lock

free_cup : (x : Dbref) → opens_at town x (n 11) ≡ true
unfolding opens_at object_at number_in kind_in object_in room_zero player_one
free_cup x = ap (opens_by x) no_lock

-- what is said of an exit, as it opens or doesn't
abbrev walking : Dbref → Bool → Option Denial
walking d opens = or_else (option_map (λ x. record { rule = 10; object = x }) (when (not opens) d)) None

-- and of what is taken, also as it lies elsewhere
abbrev taking : Dbref → Option Dbref → Bool → Option Denial
taking d elsewhere opens = or_else (option_map (λ x. record { rule = 10; object = x }) (when (not opens) d)) (or_else (option_map (λ x. record { rule = 11; object = x }) elsewhere) None)

pub reaching : Reaching
unfolding Reaching level_at owner_at flag_at is_player_at owns controls_as effective controls controls_or is_near object_at number_in kind_in object_in room_zero player_one
reaching = (refl, refl, refl, refl, refl, refl, refl, refl, refl, refl, refl, refl, refl, refl, refl, refl, refl, refl, refl, refl, refl, refl, refl, refl, refl, refl, refl, refl, refl, refl, refl, refl, refl, refl, refl, refl)

pub moving : Moving
unfolding Moving level_at owner_at flag_at is_player_at owns controls_as effective controls controls_or is_near object_at number_in kind_in object_in room_zero player_one
moving = (refl, refl, refl, refl, refl, refl, refl, refl, refl, ap (walking (n 10)) (shut_exit (n 2)), ap (taking (n 7) None) (shut_lamp (n 2)), ap (walking (n 10)) (shut_exit (n 1)), ap (taking (n 7) None) (shut_lamp (n 1)), ap (walking (n 12)) (free_exit (n 2)), λ es a d is. ap (walking d) is, λ es a d is. ap (walking d) is, ap (taking (n 6) (Some (n 6))) (free_ball (n 1)), ap (taking (n 11) (Some (n 11))) (free_cup (n 2)), ap (taking (n 11) None) (free_cup (n 3)), refl, refl, refl, refl, refl, refl, refl, refl, refl, refl)

pub making : Making
unfolding Making level_at owner_at flag_at is_player_at owns controls_as effective controls controls_or is_near object_at number_in kind_in object_in room_zero player_one
making = (refl, refl, refl, refl, refl, refl, refl, refl, refl, refl, refl, refl, refl, refl, refl, refl, refl, refl, refl, refl, refl, refl, refl, refl, refl, refl, refl, refl, refl, refl, refl, refl, refl, refl)

pub ending : Ending
unfolding Ending level_at owner_at flag_at is_player_at owns controls_as effective controls controls_or is_near object_at number_in kind_in object_in room_zero player_one
ending = (refl, refl, refl, refl, refl, refl, refl, refl, refl, refl, refl, refl, refl, refl, refl, refl, refl, refl, refl, refl, refl, refl, refl, refl, refl, ap (taking (n 7) (Some (n 7))) (shut_lamp (n 3)), refl, refl, refl)
