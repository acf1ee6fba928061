-- That a mirror holds the stored world of a front of the batches of a file.
use Rattle.std.specs.Prelude.{◌≡◌, ◌⊎◌, ◌≤◌, ◌<◌, ◌^◌, ℕ, zero, suc, Bool, true, false, List, [], ◌∷◌, length, slice_get, Option, Some, None, Result, Ok, Err, All}
use Rattle.muck_mirror.specs.declared.mirror.Fed.{Fed}
use Rattle.muck_mirror.specs.declared.mirror.Fed.TheVariants.{Full}
use Rattle.muck_log.specs.World.{StoredWorld, start}
use Rattle.muck_mirror.specs.Laying.{laid_in}
use Rattle.muck_mirror.specs.Bodies.{FedBody, fed_body_in}
use Rattle.muck_log.specs.File.{after_number}
use Rattle.muck_mirror.specs.Mirrors.{Mirror, mirror_made, fed}

-- A body of this generation and number, laid over a world.
pub record IsBatch (generation number : ℕ) (w : StoredWorld) (bytes : List ℕ) (v : StoredWorld) : Type 0 where
  pub body : FedBody
  pub reads : fed_body_in generation bytes ≡ Ok body
  pub numbered : body.number ≡ number
  pub lays : laid_in body.version body.payload w ≡ Some v

-- The bodies of one generation, by numbers from this one on, each of which is laid over the world of those before it.
abbrev pub AreBatches : ℕ → ℕ → StoredWorld → List (List ℕ) → Type 0
AreBatches generation number w [] = Unit {0}
AreBatches generation number w (bytes ∷ rest) = (v : StoredWorld) × IsBatch generation number w bytes v × AreBatches generation (after_number number) v rest

abbrev pub laid_body : Result FedBody ℕ → StoredWorld → Option StoredWorld
laid_body (Ok b) w = laid_in b.version b.payload w
laid_body (Err left) w = None

abbrev pub or_else_world : Option StoredWorld → StoredWorld → StoredWorld
or_else_world (Some v) w = v
or_else_world None w = w

-- the stored world of the first m of these bodies
unfoldable pub front_world : ℕ → ℕ → List (List ℕ) → StoredWorld → StoredWorld
front_world generation zero bodies w = w
front_world generation (suc m) [] w = w
front_world generation (suc m) (bytes ∷ rest) w = front_world generation m rest (or_else_world (laid_body (fed_body_in generation bytes) w) w)

-- A call of `feed`: the bytes, and whether memory was wanted, so that nothing changed.
pub record Call : Type 0 where
  pub bytes : List ℕ
  pub refused : Bool

abbrev pub mirror_after_call : Call → Mirror → Mirror
mirror_after_call c m = elim c.refused as (λ _. Mirror) [ true ↦ m | false ↦ (fed m c.bytes).1 ]

-- what these calls leave
unfoldable pub after_calls : List Call → Mirror → Mirror
after_calls [] m = m
after_calls (c ∷ calls) m = after_calls calls (mirror_after_call c m)

abbrev pub is_full_answer : Fed → Bool
is_full_answer Full = true
is_full_answer answer = false

-- it answered neither Full nor want of memory
abbrev pub IsTaken : Mirror → Call → Type 0
IsTaken m c = (c.refused ≡ false) × (is_full_answer (fed m c.bytes).0 ≡ false)

-- these bytes were fed by one of these calls, which answered neither Full nor want of memory
abbrev pub WasFed : List Call → Mirror → List ℕ → Type 0
WasFed [] m bytes = ⊥
WasFed (c ∷ calls) m bytes = (IsTaken m c × (c.bytes ≡ bytes)) ⊎ WasFed calls (mirror_after_call c m) bytes

abbrev pub IsOneOf : List (List ℕ) → List ℕ → Type 0
IsOneOf bodies bytes = (i : ℕ) × (slice_get bodies i ≡ Some bytes)

abbrev pub AllOneOf : List (List ℕ) → List Call → Type 0
AllOneOf bodies calls = All (λ c. IsOneOf bodies c.bytes) calls

-- The mirror holds the stored world of the first m batches, where m is the greatest number such that each of these was fed.
pub record Holds (generation first : ℕ) (bodies : List (List ℕ)) (calls : List Call) (m : ℕ) : Type 0 where
  pub count : m ≤ length bodies
  pub world : (after_calls calls (mirror_made generation first)).world ≡ front_world generation m bodies start
  pub fed : (i : ℕ) (bytes : List ℕ) → i < m → slice_get bodies i ≡ Some bytes → WasFed calls (mirror_made generation first) bytes
  pub greatest : (bytes : List ℕ) → slice_get bodies m ≡ Some bytes → WasFed calls (mirror_made generation first) bytes → ⊥

-- over every list of calls, of bodies of one file
abbrev pub HoldsFront : ℕ → ℕ → Type 0
HoldsFront generation first = (bodies : List (List ℕ)) (calls : List Call) → AreBatches generation first start bodies → length bodies ≤ 2 ^ 63 → AllOneOf bodies calls
    → (m : ℕ) × Holds generation first bodies calls m
