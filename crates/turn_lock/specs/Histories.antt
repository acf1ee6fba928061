-- Histories, and whose their entries are.
use Rattle.std.specs.Prelude.{◌≡◌, ℕ, ◌⊎◌, Bool, true, false, List, [], ◌∷◌, ◌++◌, ◌==◌}
use mathlib.Core.Option.{some}
use lib.ListN.{get_elem?}

-- the one begins with the other
abbrev pub StartsWith : {E : Type 0} → List E → List E → Type 0
StartsWith {E} log seen = (rest : List E) × (log ≡ seen ++ rest)

abbrev pub entry_kept : {E : Type 0} → Bool → E → List E → List E
entry_kept true e es = e ∷ es
entry_kept false e es = es

-- the entries of a party, in order
abbrev pub own_of : {E : Type 0} → (E → ℕ) → ℕ → List E → List E
own_of party p [] = []
own_of party p (e ∷ es) = entry_kept (party e == p) e (own_of party p es)

-- each entry
abbrev pub AllOf : {E : Type 0} → (E → Type 0) → List E → Type 0
AllOf {E} allowed log = (i : ℕ) (e : E) → get_elem? log i ≡ some e → allowed e

-- somewhere in the list
abbrev pub Has : {A : Type 0} → List A → A → Type 0
Has xs x = (i : ℕ) × (get_elem? xs i ≡ some x)

-- the first party, or one that was given a seat
abbrev pub IsKnown : List ℕ → ℕ → Type 0
IsKnown given p = (p ≡ 0) ⊎ Has given p
