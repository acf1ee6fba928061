-- Numbers of objects, and what is no object.
use Rattle.std.specs.Prelude.{ℕ, ℤ, pos, negsuc, Bool, Option, Some, None}
use Rattle.std.specs.Ordering.{int_eq}
use Rattle.muck_model.specs.declared.dbref.Dbref.{Dbref}

abbrev pub dbref_of : ℕ → Dbref
dbref_of n = record { 0 = pos n }

-- `#-1`
abbrev pub nothing : Dbref
nothing = record { 0 = negsuc 0 }

-- `#-3`
abbrev pub home : Dbref
home = record { 0 = negsuc 2 }

abbrev pub same : Dbref → Dbref → Bool
same a b = int_eq a.0 b.0

abbrev pub index_at : ℤ → Option ℕ
index_at (pos n) = Some n
index_at (negsuc n) = None

-- the number from 0 on
abbrev pub index_of : Dbref → Option ℕ
index_of d = index_at d.0
