-- The bodies of the batches of a file, by its gates.
use Rattle.std.specs.Prelude.{◌≡◌, ℕ, zero, suc, ◌+◌, ◌==◌, if◌then◌else◌, List, [], ◌∷◌, length, take, drop, nat_le, Option, Some, Ok, find}
use Rattle.std.specs.Option.{option_map_or}
use Rattle.std.specs.Int.{w64, from_be_bytes}
use Rattle.muck_log.specs.Body.{Body, body_of}
use Rattle.muck_log.specs.File.{Held, join, begin}
use Rattle.muck_log.specs.Store.{Chosen, store_of, pick}
use Rattle.muck_bodies.specs.declared.beginning.Start.{Start}

-- behind a gate: the length, the body, and what begins with the next gate
abbrev pub framed_then : List ℕ → ℕ → (List ℕ → List (List ℕ)) → List (List ℕ)
framed_then rest size more = if nat_le (8 + size) (length rest) then take size (drop 8 rest) ∷ more (drop (8 + size) rest) else []

-- those of at most n batches: each open gate, which isn't the last byte, has a body behind it
unfoldable pub bodies_up_to : ℕ → List ℕ → List (List ℕ)
bodies_up_to zero file = []
bodies_up_to (suc n) [] = []
bodies_up_to (suc n) (gate ∷ []) = []
bodies_up_to (suc n) (gate ∷ next ∷ rest) = if gate == 1 then framed_then (next ∷ rest) (from_be_bytes w64 (take 8 (next ∷ rest))) (bodies_up_to n) else []

-- all bodies of a file
unfoldable pub bodies_of : List ℕ → List (List ℕ)
bodies_of file = bodies_up_to (length file) file

-- the number of a body, and its generation; 0 where it doesn't parse
abbrev pub body_number : List ℕ → ℕ
body_number bytes = option_map_or (λ (b : Body). b.number) (body_of bytes) 0

abbrev pub generation_of : List ℕ → ℕ
generation_of bytes = option_map_or (λ (b : Body). b.generation) (body_of bytes) 0

-- the first body of that number
unfoldable pub body_numbered : ℕ → List (List ℕ) → Option (List ℕ)
body_numbered number bs = find (λ b. body_number b == number) bs

-- the number of the first of these bodies, or 1 where there is none
abbrev pub first_number : List (List ℕ) → ℕ
first_number [] = 1
first_number (b ∷ bs) = body_number b

-- where the batches of a store begin, of which this file counts
pub record IsStart (start : Start) (s : Chosen) (file : List ℕ) : Type 0 where
  pub second : start.second ≡ s.second
  pub generation : start.generation ≡ s.held.generation
  pub first : start.first ≡ first_number (bodies_of file)

-- each joins what those before it made, and they lead to this
abbrev pub Lead : Held → List (List ℕ) → Held → Type 0
Lead held [] to = to ≡ held
Lead held (b ∷ bs) to = (place : ℕ) × (next : Held) × (join place held b ≡ Some next) × Lead next bs to

-- of a store that loads: the bodies of the file that counts lead to what the store holds
abbrev pub LeadThere : Type 0
LeadThere = (a b : List ℕ) (s : Chosen) → store_of a b ≡ Ok s → Lead (begin s.held.generation) (bodies_of (pick s.second a b)) s.held
