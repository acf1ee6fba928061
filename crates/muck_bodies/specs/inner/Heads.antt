-- What stands at a gate.
use Rattle.std.specs.Prelude.{◌≡◌, ℕ, suc, ◌+◌, ◌≤◌, Bool, true, false, List, [], ◌∷◌, length, take, drop, nat_lt, if◌then◌else◌, Option, Some, None}
use Rattle.muck_bodies.specs.declared.head.Head.{Head}
use Rattle.muck_bodies.specs.declared.beginning.Start.{Start}
use Rattle.muck_bodies.specs.Bodies.{bodies_up_to, body_number, generation_of}

-- a body of this size, generation and number stands behind the gate, and all of it is there
pub record IsWhole (h : Head) (file : List ℕ) : Type 0 where
  pub fits : 9 + h.size ≤ length file
  pub number : h.number ≡ body_number (take h.size (drop 9 file))
  pub generation : h.generation ≡ generation_of (take h.size (drop 9 file))
  pub first : (n : ℕ) → bodies_up_to (suc n) file ≡ take h.size (drop 9 file) ∷ bodies_up_to n (drop (9 + h.size) file)

-- or there is none
abbrev pub IsHead : Option Head → List ℕ → Type 0
IsHead (Some h) file = IsWhole h file
IsHead None file = (n : ℕ) → bodies_up_to n file ≡ []

abbrev pub start_at : Bool → Head → Start
start_at second h = record { second = second; generation = h.generation; first = h.number }

-- where batches begin, by the first heads of both files
abbrev pub chosen_start : Option Head → Option Head → Start
chosen_start None None = record { second = false; generation = 1; first = 1 }
chosen_start (Some a) None = start_at false a
chosen_start None (Some b) = start_at true b
chosen_start (Some a) (Some b) = if nat_lt b.generation a.generation then start_at false a else start_at true b
