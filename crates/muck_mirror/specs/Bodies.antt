-- The grammar of a body of one generation.
use Rattle.std.specs.Prelude.{ℕ, suc, ◌+◌, ◌-◌, ◌==◌, if◌then◌else◌, List, [], ◌∷◌, length, codes, Result, Ok, Err}
use Rattle.std.specs.Int.{w64, to_be_bytes}
use Rattle.muck_codec.specs.Reading.{◌>>=◌, number_at}
use Rattle.muck_codec.specs.Batches.{whole_batch}

-- these very bytes
unfoldable pub literal_at : List ℕ → List ℕ → Result (List ℕ) ℕ
literal_at [] bytes = Ok bytes
literal_at (w ∷ wanted) [] = Err 0
literal_at (w ∷ wanted) (b ∷ bytes) = if b == w then literal_at wanted bytes else Err (suc (length bytes))

-- the version, of which there is one
unfoldable pub version_at : List ℕ → Result (ℕ × List ℕ) ℕ
version_at [] = Err 0
version_at (b ∷ bytes) = if b == 1 then Ok (1, bytes) else Err (suc (length bytes))

-- The head of a body: version and number.
pub record Head : Type 0 where
  pub version : ℕ
  pub number : ℕ

unfoldable pub body_head_at : ℕ → List ℕ → Result (Head × List ℕ) ℕ
body_head_at generation bytes =
    literal_at (codes "MUCK") bytes >>= λ rest. version_at rest >>= λ v. literal_at (to_be_bytes w64 generation) v.1
    >>= λ tail. number_at w64 tail >>= λ n. Ok (record { version = v.0; number = n.0 }, n.1)

-- a body that was read: its version, its number and the bytes of its batch
pub record FedBody : Type 0 where
  pub version : ℕ
  pub number : ℕ
  pub payload : List ℕ

-- where reading fails, the place of the first byte that nothing continues, from the front of all bytes, of which so many stand before
-- these
abbrev pub fault_placed : {A : Type 0} → ℕ → List ℕ → Result A ℕ → Result A ℕ
fault_placed before bytes (Ok x) = Ok x
fault_placed before bytes (Err left) = Err (before + (length bytes - left))

-- bytes that are a body of this generation to their end, or the place of the first byte that no such body continues
unfoldable pub fed_body_in : ℕ → List ℕ → Result FedBody ℕ
fed_body_in generation bytes =
    fault_placed 0 bytes (body_head_at generation bytes)
    >>= λ h. fault_placed (length bytes - length h.1) h.1 (whole_batch h.0.version h.1)
    >>= λ b. Ok (record { version = h.0.version; number = h.0.number; payload = h.1 })
