-- By whose rights, by examples: who acts for another has the rights of that one, and none of who plays.
use Rattle.std.specs.Prelude.{◌≡◌, ℕ, true, false, List, [], ◌∷◌, codes, Option, Some, None, refl}
use Rattle.std.specs.Option.{option_map}
use Rattle.std.specs.Fmt.{digits}
use Rattle.muck_model.specs.declared.dbref.Kind.TheVariants.{Player}
use Rattle.spec_live.specs.Boards.{first_tune, early_board}
use Rattle.spec_live.specs.Lives.{Live}
use Rattle.spec_live.specs.Objects.{Entry, dbref_of, object_at, number_in, kind_in, object_in}
use Rattle.spec_live.specs.Seen.{flag_letters, long_form}
use Rattle.spec_live.specs.Start.{room_zero, player_one}
use Rattle.spec_rights.specs.declared.act.Actor.{Actor}
use Rattle.spec_rights.specs.declared.act.Act.{Act}
use Rattle.spec_rights.specs.declared.act.Act.TheVariants.{NewProgram, Edit, Change, SetOwner, EndProcess}
use Rattle.spec_rights.specs.Levels.{level_at, owner_at, flag_at, is_player_at, owns, controls_as, command_level, name_shown}
use Rattle.spec_rights.specs.Verdict.{controls, controls_or, verdict}
use Rattle.spec_rights.specs.inner.Town.{town, made, holding, for_two}

-- the rule that denies it in the town
abbrev denied : Actor → Act → Option ℕ
denied a act = option_map (λ d. d.rule) (verdict town a act)

-- Two plays what acts for Three
abbrev for_three : ℕ → Actor
for_three level = record { level = level; user = dbref_of 3; player = dbref_of 2 }

-- Two `#2` has level 3, and is One's
abbrev high : List Entry
high = holding [] room_zero ∷ holding [] player_one ∷ holding [] (made Player 1 0 0 3) ∷ []

abbrev in_town : Live
in_town = record { objects = town; board = early_board 0 first_tune }

unfoldable pub RightRows : Type 0
RightRows =
    -- changing the ball of Two, and the program of Three
    (denied (for_two 1) (Change (dbref_of 6)) ≡ None)
    × (denied (for_two 3) (Change (dbref_of 9)) ≡ Some 16)
    -- processes of either
    × (denied (for_two 1) (EndProcess (dbref_of 2) (dbref_of 9)) ≡ None)
    × (denied (for_two 3) (EndProcess (dbref_of 3) (dbref_of 9)) ≡ Some 23)
    -- programs: Three has no level
    × (denied (for_two 1) NewProgram ≡ None)
    × (denied (for_three 3) NewProgram ≡ Some 22)
    × (denied (for_three 3) (Edit (dbref_of 9)) ≡ Some 22)
    -- the lamp, which anyone may take, goes to whom it acts for
    × (denied (for_two 1) (SetOwner (dbref_of 7) (dbref_of 2)) ≡ None)
    × (denied (for_two 1) (SetOwner (dbref_of 7) (dbref_of 3)) ≡ Some 21)
    -- commands: a wizard's at the highest level, all others at the lowest
    × (command_level high (dbref_of 1) ≡ 4)
    × (command_level high (dbref_of 2) ≡ 1)
    -- a player has itself, whoever owns it
    × (owns high (dbref_of 2) (dbref_of 2) ≡ true)
    × (owns high (dbref_of 1) (dbref_of 2) ≡ true)
    × (owns high (dbref_of 0) (dbref_of 2) ≡ false)
    -- long forms are for who controls
    × (name_shown (dbref_of 2) (dbref_of 6) in_town ≡ codes "it(#6)")
    × (name_shown (dbref_of 3) (dbref_of 6) in_town ≡ codes "it")

pub right_rows : RightRows
unfolding RightRows level_at owner_at flag_at is_player_at owns controls_as command_level name_shown controls controls_or flag_letters long_form first_tune early_board object_at number_in kind_in object_in room_zero player_one digits
right_rows = (refl, refl, refl, refl, refl, refl, refl, refl, refl, refl, refl, refl, refl, refl, refl, refl)
