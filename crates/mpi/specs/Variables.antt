-- The variables of a formula, as a map from names to values.
use Rattle.std.specs.Prelude.{ℕ, List, Option, None, Some}
use Rattle.std.specs.Ordering.{nat_cmp}
use Rattle.std.specs.declared.cmp.Ordering.{Ordering}
use Rattle.std.specs.Cmp.Lexicographic.{slice_cmp}
use Rattle.std.specs.FinMap.{FinMap, insert, remove}

abbrev pub name_cmp : List ℕ → List ℕ → Ordering
name_cmp = slice_cmp nat_cmp

abbrev pub Variables : Type 0
Variables = FinMap name_cmp (List ℕ)

-- the variable as it was before: with its old value, or not there
unfoldable pub given_back : List ℕ → Option (List ℕ) → Variables → Variables
given_back name None v = remove v name
given_back name (Some old) v = insert v name old
