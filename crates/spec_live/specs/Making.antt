-- Making an object.
use Rattle.std.specs.Prelude.{◌≡◌, ◌⊎◌, ℕ, suc, ◌==◌, nat_lt, Bool, true, false, ◌||◌, if◌then◌else◌, List, [], ◌∷◌, ◌++◌, length, Option, Some, None, Result, Ok, Err, MatchResult}
use Rattle.std.specs.Option.{option_map_or}
use Rattle.muck_model.specs.declared.dbref.Dbref.{Dbref}
use Rattle.muck_model.specs.declared.dbref.Kind.{Kind}
use Rattle.spec_live.specs.declared.object.Object.{Object}
use Rattle.spec_live.specs.declared.saving.Saving.TheVariants.{Due}
use Rattle.spec_live.specs.declared.fault.DbFault.{DbFault}
use Rattle.spec_live.specs.declared.fault.DbFault.TheVariants.{NoSuchObject, WrongKind, WorldFull, NoMemory}
use Rattle.spec_live.specs.Objects.{Entry, dbref_of, nothing, is_thing, is_player, is_garbage, may_stand, kind_in, is_vehicle_in, number_in, changed_at, with_object, bare_object, garbage}
use Rattle.spec_live.specs.Moving.{moved}

-- the most objects
unfoldable pub objects_most : ℕ
objects_most = 100000

-- the lowest number of garbage, else the next number
unfoldable pub free_in : List Entry → ℕ
free_in [] = 0
free_in (e ∷ es) = if is_garbage e.object.kind then 0 else suc (free_in es)

unfoldable pub blank_entry : Entry
blank_entry = record { object = garbage; contents = []; exits = []; mark = None; saving = Due; stood = None }

-- one more of garbage, where the number is the next
unfoldable pub objects_grown : ℕ → List Entry → List Entry
objects_grown n es = if n == length es then es ++ blank_entry ∷ [] else es

abbrev pub has_home : Kind → Bool
has_home kind = is_thing kind || is_player kind

-- a new object: a player owns itself, and `#0` is the first home of a thing or a player
unfoldable pub new_object : ℕ → Kind → List ℕ → Dbref → Object
new_object n kind name owner =
    record (bare_object kind name (if is_player kind then dbref_of n else owner)) { home = if has_home kind then dbref_of 0 else nothing }

-- an object at that number, in front of a list of `to`
unfoldable pub created : ℕ → Kind → List ℕ → Dbref → ℕ → List Entry → List Entry
created n kind name owner to es = moved n to (changed_at n (with_object (new_object n kind name owner)) (objects_grown n es))

-- the kind may be there, and its owner is a player
unfoldable pub may_make : Kind → Bool → ℕ → List Entry → Bool
may_make kind owned to es = if may_stand kind (kind_in es to) (is_vehicle_in es to) then owned else false

-- the number and the place of an allowed creation, or the first refusal
unfoldable pub make_judged : Kind → Bool → ℕ → List Entry → Result (ℕ × ℕ) DbFault
make_judged kind owned to es =
    if may_make kind owned to es then (if nat_lt (free_in es) objects_most then Ok (free_in es, to) else Err WorldFull) else Err WrongKind

-- whether the owner is a player; None where it isn't there. The owner of a player, which owns itself, isn't looked at.
unfoldable pub owner_judged : Kind → Dbref → List Entry → Option Bool
owner_judged kind owner es =
    if is_player kind then Some true else option_map_or (λ n. Some (is_player (kind_in es n))) (number_in es owner) None

unfoldable pub create_check : Kind → Dbref → Dbref → List Entry → Result (ℕ × ℕ) DbFault
create_check kind owner place es =
    option_map_or (λ owned. option_map_or (λ to. make_judged kind owned to es) (number_in es place) (Err NoSuchObject)) (owner_judged kind owner es) (Err NoSuchObject)

-- what `create` does; where memory was wanted nothing changed
abbrev pub Creates : Result (ℕ × ℕ) DbFault → Kind → List ℕ → Dbref → List Entry → List Entry → Result Dbref DbFault → Type 0
Creates (Ok p) kind name owner old new result = MatchResult result (λ d. (d ≡ dbref_of p.0) × (new ≡ created p.0 kind name owner p.1 old)) (λ fault. (fault ≡ NoMemory) × (new ≡ old))
Creates (Err fault) kind name owner old new result = MatchResult result (λ d. ⊥) (λ found. ((found ≡ fault) ⊎ (found ≡ NoMemory)) × (new ≡ old))
