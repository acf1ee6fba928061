-- What a clock answers.
use Rattle.std.specs.Prelude.{◌≡◌, ℕ, List, [], ◌∷◌, Option, Some, None}

-- the answer of a clock that has these answers to give
abbrev pub next_answer : List ℕ → ℕ
next_answer [] = 0
next_answer (answer ∷ answers) = answer

-- what it has to give after that: the last answer stays
abbrev pub later_answers : List ℕ → List ℕ
later_answers [] = []
later_answers (answer ∷ []) = answer ∷ []
later_answers (answer ∷ next ∷ answers) = next ∷ answers

-- one answer, where the clock tells what it is going to answer
abbrev pub Answers : Option (List ℕ) → Option (List ℕ) → ℕ → Type 0
Answers None now answer = Unit {0}
Answers (Some answers) now answer = (answer ≡ next_answer answers) × (now ≡ Some (later_answers answers))
