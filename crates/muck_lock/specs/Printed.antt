-- How a lock is written.
use Rattle.std.specs.Prelude.{ℕ, Bool, true, false, List, [], ◌∷◌, ◌++◌}
use Rattle.std.specs.Fmt.{signed_decimal}
use Rattle.muck_model.specs.declared.lock.Lock.{Lock, Lock-F, fold-Lock}
use Rattle.muck_lock.specs.declared.part.Part.{Part}
use Rattle.muck_lock.specs.declared.part.Part.TheVariants.{OneOf, AllOf, Term}

-- where `&` needs parentheses
abbrev pub groups_both : Part → Bool
groups_both OneOf = false
groups_both AllOf = false
groups_both Term = true

-- where `|` needs parentheses
abbrev pub groups_either : Part → Bool
groups_either OneOf = false
groups_either AllOf = true
groups_either Term = true

abbrev pub opening_bracket : Bool → List ℕ
opening_bracket true = 40 ∷ []
opening_bracket false = []

abbrev pub closing : Bool → List ℕ
closing true = 41 ∷ []
closing false = []

abbrev pub grouped : Bool → List ℕ → List ℕ
grouped in_parentheses text = opening_bracket in_parentheses ++ text ++ closing in_parentheses

abbrev pub written_step : Lock-F (Part → List ℕ) → Part → List ℕ
written_step Lock-F.Free part = []
written_step (Lock-F.Object d) part = 35 ∷ signed_decimal d.0
written_step (Lock-F.Prop path value) part = path ++ 58 ∷ value
written_step (Lock-F.Not a) part = 33 ∷ a Term
written_step (Lock-F.Both a b) part = grouped (groups_both part) (a Term ++ 38 ∷ b AllOf)
written_step (Lock-F.Either a b) part = grouped (groups_either part) (a AllOf ++ 124 ∷ b OneOf)

-- a lock as it is written where such a part stands
abbrev pub lock_written : Lock → Part → List ℕ
lock_written = fold-Lock (Part → List ℕ) written_step

abbrev pub lock_printed : Lock → List ℕ
lock_printed lock = lock_written lock OneOf
