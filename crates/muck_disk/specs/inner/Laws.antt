-- What the words of the model allow at least: a word that spoke of fewer images would break one of these.
use Rattle.std.specs.Prelude.{◌≡◌, ℕ, ◌+◌, ◌<◌, ◌≤◌, ◌⊎◌, Bool, IsTrue, List, ◌++◌, length, take, drop}
use Rattle.muck_disk.specs.Images.{Torn, Same, Only, Elapses}

-- a crash in a write may leave any bytes in place of those that were to be written, as many or fewer, also past the old end
abbrev pub TornAny : Type 0
TornAny = (at n : ℕ) (old x : List ℕ) → at ≤ length old → length x ≤ n → Torn at n old (take at old ++ x ++ drop (at + length x) old)

-- what was left stays left where nothing is written
abbrev pub SameAny : Type 0
SameAny = (file : List ℕ) → Same file file

-- of a file that a crash leaves nothing more is said than that it is this one
abbrev pub OnlyAny : Type 0
OnlyAny = (images : List ℕ → Bool) (file : List ℕ) → ((c : List ℕ) → IsTrue (images c) → c ≡ file) → Only file (λ c. IsTrue (images c))

-- the loosest disk: after a step a crash may leave all that the step makes of what the last moment left
abbrev pub loosest : ℕ → (ℕ → List ℕ → Type 0) → (List ℕ → List ℕ → Type 0) → ℕ → List ℕ → Type 0
loosest before past step t c = ((t ≤ before) × past t c) ⊎ ((before < t) × ((d : List ℕ) × past before d × step d c))

-- on it time passes as a disk says
abbrev pub ElapsesOn : (ℕ → List ℕ → Type 0) → (List ℕ → List ℕ → Type 0) → Type 0
ElapsesOn past step = (before now : ℕ) → before ≤ now → Elapses before now past (loosest before past step) step

abbrev pub ElapsesAny : Type 0
ElapsesAny = (past : ℕ → List ℕ → Bool) (step : List ℕ → List ℕ → Bool) → ElapsesOn (λ t c. IsTrue (past t c)) (λ d c. IsTrue (step d c))
