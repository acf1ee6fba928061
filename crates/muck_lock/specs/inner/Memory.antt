-- Objects in memory, which keys are tried on, and names in memory.
use Rattle.std.specs.Prelude.{ℕ, ℤ, pos, negsuc, suc, Bool, false, ◌&&◌, ◌+◌, if◌then◌else◌, List, [], ◌∷◌, drop, bytes_eq, slice_get, Option, Some, None}
use Rattle.std.specs.Option.{option_and_then, option_map, option_map_or}
use Rattle.std.specs.List.{find, list_any}
use Rattle.muck_model.specs.declared.dbref.Dbref.{Dbref}
use Rattle.muck_lock.specs.inner.Chain.{same, nothing}
use Rattle.muck_lock.specs.declared.memory.MemObject.{MemObject}
use Rattle.muck_lock.specs.declared.memory.MemProp.{MemProp}
use Rattle.muck_lock.specs.declared.memory.MemName.{MemName}

abbrev pub index_at : ℤ → Option ℕ
index_at (pos n) = Some n
index_at (negsuc n) = None

abbrev pub object_at : List MemObject → Dbref → Option MemObject
object_at objects d = option_and_then (λ n. slice_get objects n) (index_at d.0)

abbrev pub numbered_at : ℕ → Dbref
numbered_at n = record { 0 = pos n }

-- those whose place is d, of objects that are numbered from k on
abbrev pub standing_in : Dbref → ℕ → List MemObject → List Dbref
standing_in d k [] = []
standing_in d k (o ∷ more) = if same o.place d then numbered_at k ∷ standing_in d (suc k) more else standing_in d (suc k) more

abbrev pub first_in : Dbref → ℕ → List MemObject → Dbref
first_in d k [] = nothing
first_in d k (o ∷ more) = if same o.place d then numbered_at k else first_in d (suc k) more

-- the next one that stands where the object of that number stands
abbrev pub next_at : List MemObject → ℕ → Option MemObject → Dbref
next_at objects n None = nothing
next_at objects n (Some o) = first_in o.place (n + 1) (drop (n + 1) objects)

abbrev pub next_of : List MemObject → Dbref → Dbref
next_of objects d = option_map_or (λ n. next_at objects n (slice_get objects n)) (index_at d.0) nothing

abbrev pub is_prop : List ℕ → List ℕ → MemProp → Bool
is_prop path value p = bytes_eq p.path path && bytes_eq p.value value

abbrev pub has_prop : List MemObject → Dbref → List ℕ → List ℕ → Bool
has_prop objects d path value = option_map_or (λ o. list_any (is_prop path value) o.props) (object_at objects d) false

abbrev pub object_named : List MemName → List ℕ → Option Dbref
object_named names name = option_map (λ n. n.object) (find (λ n. bytes_eq n.name name) names)
