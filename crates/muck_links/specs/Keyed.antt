-- Lists of things with numbers, the latest first.
use Rattle.std.specs.Prelude.{ℕ, if◌then◌else◌, ◌==◌, List, [], ◌∷◌, Option, find}

-- the list with its latest thing of number d changed
abbrev pub altered : {A : Type 0} → (A → ℕ) → ℕ → (A → A) → List A → List A
altered key d f [] = []
altered key d f (x ∷ xs) = if key x == d then f x ∷ xs else x ∷ altered key d f xs

-- the latest thing of number d
abbrev pub latest : {A : Type 0} → (A → ℕ) → ℕ → List A → Option A
latest key d xs = find (λ x. key x == d) xs
