-- Lists of numbers, and places that lead upward.
use Rattle.std.specs.Prelude.{◌≡◌, ℕ, ◌<◌, ◌==◌, zero, suc, if◌then◌else◌, Bool, true, false, List, [], ◌∷◌, Option, Some, None, ◌⊎◌}
use Rattle.std.specs.List.{list_any}

-- the numbers met in at most so many steps, where each number has a next one or none
unfoldable pub walk : ℕ → (ℕ → Option ℕ) → Option ℕ → List ℕ
walk zero next start = []
walk (suc steps) next None = []
walk (suc steps) next (Some x) = x ∷ walk steps next (next x)

-- the chain from there is this list: each is below n and leads to the one behind it, the last to none
unfoldable pub IsChain : ℕ → (ℕ → Option ℕ) → Option ℕ → List ℕ → Type 0
IsChain n next start [] = start ≡ None
IsChain n next start (x ∷ xs) = (start ≡ Some x) × (x < n) × IsChain n next (next x) xs

-- a walk of n steps meets the end
unfoldable pub Ends : ℕ → (ℕ → Option ℕ) → Option ℕ → Type 0
Ends n next start = IsChain n next start (walk n next start)

unfoldable pub Member : ℕ → List ℕ → Type 0
Member d [] = ⊥
Member d (x ∷ xs) = (d ≡ x) ⊎ Member d xs

unfoldable pub IsApart : List ℕ → Type 0
IsApart [] = Unit {0}
IsApart (x ∷ xs) = (Member x xs → ⊥) × IsApart xs

unfoldable pub has : ℕ → List ℕ → Bool
has d xs = list_any (λ x. d == x) xs

-- the list with d left out
unfoldable pub without_number : ℕ → List ℕ → List ℕ
without_number d [] = []
without_number d (x ∷ xs) = if x == d then without_number d xs else x ∷ without_number d xs

-- what stands behind d
unfoldable pub follower : ℕ → List ℕ → Option ℕ
follower d [] = None
follower d (x ∷ xs) = if x == d then first_of xs else follower d xs
  where
    first_of : List ℕ → Option ℕ
    first_of [] = None
    first_of (y ∷ ys) = Some y

abbrev pub is_same : Bool → Bool → Bool
is_same true b = b
is_same false true = false
is_same false false = true

-- d stands in front of the list of exits, or of contents, of `to`, seen at the list xs of p
unfoldable pub put_at : Bool → ℕ → ℕ → Bool → ℕ → List ℕ → List ℕ
put_at exits to d which p xs = if is_same which exits then (if p == to then d ∷ xs else xs) else xs
