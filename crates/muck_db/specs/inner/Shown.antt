-- What matching and locks are shown of the lists.
use Rattle.std.specs.Prelude.{◌≡◌, ℕ, ◌==◌, not, Result, Err, MatchResult, if◌then◌else◌, Bool, true, false, List, [], ◌∷◌, map, Option, Some, None}
use Rattle.std.specs.Option.{option_map_or}
use Rattle.muck_model.specs.declared.dbref.Dbref.{Dbref}
use Rattle.spec_live.specs.declared.object.Object.{Object}
use Rattle.spec_live.specs.declared.fault.DbFault.{DbFault}
use Rattle.spec_live.specs.declared.fault.DbFault.TheVariants.{NoSuchObject, NoMemory}
use Rattle.hex.specs.declared.error.FromHexError.{FromHexError}
use Rattle.hex.specs.declared.error.FromHexError.TheVariants.{OutOfMemory}
use Rattle.spec_live.specs.Password.{is_digest_of}
use Rattle.spec_live.specs.Objects.{Entry, dbref_of, nothing, is_exit, is_garbage, kind_in, place_in, list_in, number_in}

-- what stands behind a number
unfoldable pub behind : ℕ → List ℕ → List ℕ
behind d [] = []
behind d (x ∷ xs) = if x == d then xs else behind d xs

-- the list that an object stands in
unfoldable pub listing : List Entry → ℕ → List ℕ
listing es n = option_map_or (λ p. list_in (is_exit (kind_in es n)) es p) (place_in es n) []

-- what stands behind an object in its list
unfoldable pub after_in : List Entry → Dbref → List Dbref
after_in es d = option_map_or (λ n. map dbref_of (behind n (listing es n))) (number_in es d) []

-- the first of a list, or `#-1`
abbrev pub head_of : List ℕ → Dbref
head_of [] = nothing
head_of (x ∷ xs) = dbref_of x

unfoldable pub first_in : List Entry → Dbref → Dbref
first_in es d = option_map_or (λ n. head_of (list_in false es n)) (number_in es d) nothing

unfoldable pub next_in : List Entry → Dbref → Dbref
next_in es d = option_map_or (λ n. head_of (behind n (listing es n))) (number_in es d) nothing

-- a number that may be none
abbrev pub dbref_at : Option ℕ → Dbref
dbref_at None = nothing
dbref_at (Some k) = dbref_of k

-- Whether the password of an object is that word, or why that isn't told.
abbrev pub Knows : Option Object → List ℕ → Result Bool DbFault → Type 0
Knows None word result = result ≡ Err NoSuchObject
Knows (Some o) word result = MatchResult result (λ same. same ≡ is_digest_of word o.digest) (λ fault. fault ≡ NoMemory)

-- an entry of an object that is there
abbrev pub is_there : Entry → Bool
is_there e = not (is_garbage e.object.kind)

-- want of memory, where digits were read
abbrev pub is_memory : FromHexError → Bool
is_memory OutOfMemory = true
is_memory fault = false
