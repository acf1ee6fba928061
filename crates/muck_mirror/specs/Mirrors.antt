-- A mirror, and what feeding it a body does.
use Rattle.std.specs.Prelude.{ℕ, ◌+◌, ◌-◌, ◌%◌, ◌^◌, Bool, ◌==◌, ◌||◌, nat_lt, nat_le, if◌then◌else◌, List, [], ◌∷◌, length, Option, Some, None, Result, Ok, Err}
use Rattle.std.specs.List.{list_any}
use Rattle.muck_mirror.specs.declared.mirror.Fed.{Fed}
use Rattle.muck_mirror.specs.declared.mirror.Fed.TheVariants.{Applied, Known, Early, Full, Strange}
use Rattle.muck_log.specs.World.{StoredWorld, start}
use Rattle.muck_log.specs.File.{after_number}
use Rattle.muck_mirror.specs.Laying.{laid_in}
use Rattle.muck_mirror.specs.Bodies.{FedBody, fed_body_in}

-- The generation that it follows, the number of the next batch, the world that it holds, and the bodies that are kept, by how far
-- they are ahead, the nearest first.
pub record Mirror : Type 0 where
  pub generation : ℕ
  pub next : ℕ
  pub world : StoredWorld
  pub kept : List FedBody

unfoldable pub mirror_made : ℕ → ℕ → Mirror
mirror_made generation first = record { generation = generation; next = first; world = start; kept = [] }

-- how far a number is ahead of the next one; one that is behind it is 2 ^ 63 or more ahead
unfoldable pub ahead : ℕ → ℕ → ℕ
ahead next number = (number + (2 ^ 64 - next)) % 2 ^ 64

abbrev pub is_body_numbered : ℕ → FedBody → Bool
is_body_numbered number b = b.number == number

abbrev pub is_body_kept : ℕ → List FedBody → Bool
is_body_kept number kept = list_any (is_body_numbered number) kept

-- it stands before those that are further ahead
unfoldable pub bodies_kept_with : ℕ → FedBody → List FedBody → List FedBody
bodies_kept_with next b [] = b ∷ []
bodies_kept_with next b (k ∷ kept) = if nat_lt (ahead next k.number) (ahead next b.number) then k ∷ bodies_kept_with next b kept else b ∷ k ∷ kept

-- how far it comes
pub record Come : Type 0 where
  pub next : ℕ
  pub world : StoredWorld
  pub kept : List FedBody

-- Kept bodies that follow are laid over the world, as long as they are next and leave a
-- consistent one with every value within its limits. One that doesn't is dropped.
unfoldable pub bodies_followed : List FedBody → ℕ → StoredWorld → Come
bodies_followed [] next w = record { next = next; world = w; kept = [] }
bodies_followed (k ∷ kept) next w =
    if k.number == next
    then (elim (laid_in k.version k.payload w) as (λ _. Come) [ None ↦ record { next = next; world = w; kept = kept } | Some v ↦ bodies_followed kept (after_number next) v ])
    else record { next = next; world = w; kept = k ∷ kept }

abbrev pub come : Mirror → Come → Mirror
come m c = record { generation = m.generation; next = c.next; world = c.world; kept = c.kept }

-- the last number that was applied
abbrev pub before_number : ℕ → ℕ
before_number next = (next + (2 ^ 64 - 1)) % 2 ^ 64

abbrev pub applied : Mirror → Come → Fed × Mirror
applied m c = (Applied (before_number c.next), come m c)

-- the next body
abbrev pub next_fed : Mirror → Option StoredWorld → Fed × Mirror
next_fed m None = (Strange 0, m)
next_fed m (Some w) = applied m (bodies_followed m.kept (after_number m.next) w)

-- a body, whose number is so far ahead
abbrev pub body_fed : Mirror → FedBody → ℕ → Fed × Mirror
body_fed m b n =
    if nat_le (2 ^ 63) n || is_body_kept b.number m.kept then (Known, m)
    else if n == 0 then next_fed m (laid_in b.version b.payload m.world)
    else if nat_le 64 (length m.kept) then (Full, m)
    else (Early, record m { kept = bodies_kept_with m.next b m.kept })

abbrev pub read_fed : Mirror → Result FedBody ℕ → Fed × Mirror
read_fed m (Err at) = (Strange at, m)
read_fed m (Ok b) = body_fed m b (ahead m.next b.number)

-- what feeding it these bytes answers, and leaves
unfoldable pub fed : Mirror → List ℕ → Fed × Mirror
fed m bytes = read_fed m (fed_body_in m.generation bytes)
