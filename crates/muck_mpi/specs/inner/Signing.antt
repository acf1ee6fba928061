-- Signs of objects, one behind another.
use Rattle.std.specs.Prelude.{ℕ, List, [], ◌∷◌, ◌++◌}
use Rattle.muck_model.specs.declared.dbref.Dbref.{Dbref}
use Rattle.spec_live.specs.Objects.{Entry}
use Rattle.spec_mpi.specs.Telling.{sign_in}

-- each behind a byte 13
unfoldable pub signs_behind : List Entry → List Dbref → List ℕ
signs_behind es [] = []
signs_behind es (d ∷ ds) = 13 ∷ (sign_in es d ++ signs_behind es ds)
