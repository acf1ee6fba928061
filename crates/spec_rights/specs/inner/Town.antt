-- The small worlds on which the rules are worked out.
use Rattle.std.specs.Prelude.{ℕ, ◌+◌, pos, List, [], ◌∷◌, codes, None}
use Rattle.muck_model.specs.declared.dbref.Kind.{Kind}
use Rattle.muck_model.specs.declared.dbref.Kind.TheVariants.{Room, Thing, Exit, Player, Program}
use Rattle.muck_prop.specs.declared.value.PropValue.TheVariants.{Number}
use Rattle.spec_live.specs.declared.object.Object.{Object}
use Rattle.spec_live.specs.declared.saving.Saving.TheVariants.{Done}
use Rattle.spec_live.specs.Flags.{builder, chown, haven, jump, link, quell, setuid, wizard}
use Rattle.spec_live.specs.Objects.{Entry, dbref_of, bare_object}
use Rattle.spec_live.specs.Setting.{with_prop}
use Rattle.spec_live.specs.Start.{room_zero, player_one}
use Rattle.spec_rights.specs.declared.act.Actor.{Actor}

-- what has that owner and place, those flags and that level
abbrev pub made : Kind → ℕ → ℕ → ℕ → ℕ → Object
made kind owner place flags level = record (bare_object kind (codes "it") (dbref_of owner)) { place = dbref_of place; flags = record { 0 = flags }; level = level }

-- with a number for a lock, which opens for nobody
abbrev pub shut : Object → Object
shut o = with_prop (codes "_" ∷ codes "lok" ∷ []) (Number (pos 3)) o

abbrev pub holding : List ℕ → Object → Entry
holding contents o = record { object = o; contents = contents; exits = []; mark = None; saving = Done; stood = None }

-- Two `#2` is in Room Zero, has B and level 2, and carries ball `#6` and program `#8`, with L. Three `#3` has neither flag nor
-- level; he is in Den `#4`, with J, and the cup `#11` of Two with him. Hall `#5` has L, and lamp `#7`, in Room Zero, C. His program
-- `#9` has his level. Room Zero, Den, Hall, lamp and the exits `#10` and `#12` are One's. The lamp and `#10` are shut.
abbrev pub town : List Entry
town =
    holding (7 ∷ 2 ∷ 1 ∷ []) room_zero ∷
    holding [] player_one ∷
    holding (8 ∷ 6 ∷ []) (made Player 2 0 builder 2) ∷
    holding (9 ∷ []) (made Player 3 4 0 0) ∷
    holding (11 ∷ 3 ∷ []) (made Room 1 0 jump 0) ∷
    holding [] (made Room 1 0 link 0) ∷
    holding [] (made Thing 2 2 0 0) ∷
    holding [] (shut (made Thing 1 0 chown 0)) ∷
    holding [] (made Program 2 2 link 1) ∷
    holding [] (made Program 3 3 0 1) ∷
    holding [] (shut (made Exit 1 0 0 0)) ∷
    holding [] (made Thing 2 4 0 0) ∷
    holding [] (made Exit 1 0 0 0) ∷ []

-- that player, for itself, at that level
abbrev pub at_level : ℕ → ℕ → Actor
at_level level player = record { level = level; user = dbref_of player; player = dbref_of player }

abbrev pub two : ℕ → Actor
two level = at_level level 2

abbrev pub three : ℕ → Actor
three level = at_level level 3

-- a wizard
abbrev pub one : Actor
one = at_level 4 1

-- Three plays what acts for Two
abbrev pub for_two : ℕ → Actor
for_two level = record { level = level; user = dbref_of 2; player = dbref_of 3 }

-- Program `#4` has these flags, this owner and this level. One is a wizard, Two has level 2, Three none, and Four `#8` W, Q and
-- level 2. Program `#5` is Two's, of level 1; program `#6`, with S and H, is One's, of level 2. Thing `#7` is Two's.
abbrev pub studio : ℕ → ℕ → ℕ → List Entry
studio flags owner level =
    holding (7 ∷ 6 ∷ 5 ∷ 4 ∷ 3 ∷ 2 ∷ 1 ∷ []) room_zero ∷
    holding [] player_one ∷
    holding [] (made Player 2 0 0 2) ∷
    holding [] (made Player 3 0 0 0) ∷
    holding [] (made Program owner 0 flags level) ∷
    holding [] (made Program 2 0 0 1) ∷
    holding [] (made Program 1 0 (setuid + haven) 2) ∷
    holding [] (made Thing 2 0 0 0) ∷
    holding [] (made Player 8 0 (wizard + quell) 2) ∷ []
