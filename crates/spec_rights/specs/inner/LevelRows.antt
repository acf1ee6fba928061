-- At which level a program runs, and for whom, by examples.
use Rattle.std.specs.Prelude.{◌≡◌, ℕ, ◌+◌, List, [], ◌∷◌, refl}
use Rattle.muck_model.specs.declared.dbref.Dbref.{Dbref}
use Rattle.spec_live.specs.Flags.{haven, quell, setuid, wizard}
use Rattle.spec_live.specs.Objects.{dbref_of, nothing, object_at, number_in, kind_in, object_in}
use Rattle.spec_live.specs.Start.{room_zero, player_one}
use Rattle.spec_rights.specs.Levels.{level_at, owner_at, flag_at, effective, inherits, level, own_user, user}
use Rattle.spec_rights.specs.inner.Town.{studio}

-- program `#4` with such flags, owner and level, that Three runs by that trigger, called by these programs, the nearest first
abbrev runs : ℕ → ℕ → ℕ → Dbref → List Dbref → ℕ × Dbref
runs flags owner own trigger callers =
    (level (studio flags owner own) (dbref_of 4) callers, user (studio flags owner own) (dbref_of 3) trigger (dbref_of 4) callers)

abbrev by_nobody : List Dbref
by_nobody = []

-- called by program `#5`, which runs at level 1 for Two
abbrev by_five : List Dbref
by_five = dbref_of 5 ∷ []

-- called by program `#6`, which `#5` called
abbrev by_six_by_five : List Dbref
by_six_by_five = dbref_of 6 ∷ dbref_of 5 ∷ []

-- called by program `#6`, which nobody called
abbrev by_six : List Dbref
by_six = dbref_of 6 ∷ []

-- Two owns it
abbrev lamp : Dbref
lamp = dbref_of 7

abbrev one : Dbref
one = dbref_of 1

abbrev two : Dbref
two = dbref_of 2

abbrev three : Dbref
three = dbref_of 3

abbrev four : Dbref
four = dbref_of 8

unfoldable pub LevelRows : Type 0
LevelRows =
    -- the level of an object
    (level_at (studio 0 1 3) one ≡ 4)
    × (level_at (studio 0 1 3) two ≡ 2)
    × (level_at (studio 0 1 3) four ≡ 2)
    × (level_at (studio 0 1 3) (dbref_of 4) ≡ 3)
    × (level_at (studio wizard 1 3) (dbref_of 4) ≡ 4)
    × (level_at (studio (wizard + quell) 1 3) (dbref_of 4) ≡ 3)
    -- the lesser of the program's level and its owner's
    × (runs 0 1 3 nothing by_nobody ≡ (3, three))
    × (runs 0 2 3 nothing by_nobody ≡ (2, three))
    × (runs 0 1 2 nothing by_nobody ≡ (2, three))
    × (runs 0 8 3 nothing by_nobody ≡ (2, three))
    × (runs wizard 1 3 nothing by_nobody ≡ (4, three))
    × (runs wizard 2 3 nothing by_nobody ≡ (2, three))
    -- below level 2 it acts for its owner
    × (runs 0 1 1 lamp by_nobody ≡ (1, one))
    × (runs haven 1 1 lamp by_nobody ≡ (1, one))
    × (runs 0 3 3 lamp by_nobody ≡ (0, three))
    -- with S it acts for its owner
    × (runs setuid 1 3 lamp by_nobody ≡ (3, one))
    -- with H it acts for the owner of the trigger
    × (runs haven 1 3 lamp by_nobody ≡ (3, two))
    × (runs haven 1 3 nothing by_nobody ≡ (3, three))
    × (runs 0 1 3 lamp by_nobody ≡ (3, three))
    × (runs (setuid + haven) 1 3 lamp by_nobody ≡ (3, one))
    -- with S and H, where a wizard owns it, it is as what called it
    × (runs (setuid + haven) 1 3 lamp by_five ≡ (1, two))
    × (runs (setuid + haven) 1 3 lamp by_six_by_five ≡ (1, two))
    × (runs (setuid + haven) 1 3 lamp by_six ≡ (2, one))
    -- and with one of them, or where another owns it, it isn't
    × (runs 0 1 3 lamp by_five ≡ (3, three))
    × (runs setuid 1 3 lamp by_five ≡ (3, one))
    × (runs haven 1 3 nothing by_five ≡ (3, three))
    × (runs (setuid + haven) 2 3 lamp by_five ≡ (2, two))
    × (runs (setuid + haven) 8 3 lamp by_five ≡ (2, four))

pub level_rows : LevelRows
unfolding LevelRows level_at owner_at flag_at effective inherits level own_user user object_at number_in kind_in object_in room_zero player_one
level_rows = (refl, refl, refl, refl, refl, refl, refl, refl, refl, refl, refl, refl, refl, refl, refl, refl, refl, refl, refl, refl, refl, refl, refl, refl, refl, refl, refl, refl)
