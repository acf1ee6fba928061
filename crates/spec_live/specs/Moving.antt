-- Moving an object.
use Rattle.std.specs.Prelude.{◌≡◌, ℕ, ◌==◌, Bool, if◌then◌else◌, List, ◌∷◌, map, Result, Ok, Err}
use Rattle.std.specs.Option.{option_map_or}
use Rattle.muck_model.specs.declared.dbref.Dbref.{Dbref}
use Rattle.spec_live.specs.declared.object.Object.{Object}
use Rattle.spec_live.specs.declared.fault.DbFault.{DbFault}
use Rattle.spec_live.specs.declared.fault.DbFault.TheVariants.{NoSuchObject, WouldLoop, WrongKind}
use Rattle.spec_live.specs.declared.saving.Saving.TheVariants.{Due}
use Rattle.spec_live.specs.Chain.{has, without_number}
use Rattle.spec_live.specs.Objects.{Entry, dbref_of, is_exit, kind_in, fits_in, places_from, number_in, changed_at, on_object}
use Rattle.spec_live.specs.Saving.{relinked}

-- d is in no list
abbrev pub left_out : ℕ → Entry → Entry
left_out d e = record e { contents = without_number d e.contents; exits = without_number d e.exits }

abbrev pub put_first : Bool → ℕ → Entry → Entry
put_first exits d e = if exits then record e { exits = d ∷ e.exits; saving = Due } else record e { contents = d ∷ e.contents; saving = Due }

abbrev pub with_place : ℕ → Object → Object
with_place to o = record o { place = dbref_of to }

-- d is taken out of its list and put in front of that of `to`, which becomes its place
unfoldable pub set_down : ℕ → ℕ → List Entry → List Entry
set_down d to es = changed_at d (on_object (with_place to)) (changed_at to (put_first (is_exit (kind_in es d)) d) (map (left_out d) es))

unfoldable pub moved : ℕ → ℕ → List Entry → List Entry
moved d to es = relinked es (set_down d to es)

-- the numbers of an allowed move, or the first refusal: Room Zero stays, the kinds have to fit, and nothing goes into
-- itself or into what lies inside it
unfoldable pub move_judged : ℕ → ℕ → List Entry → Result (ℕ × ℕ) DbFault
move_judged d to es =
    if d == 0 then Err WrongKind else
    (if fits_in es d to then (if has d (places_from es to) then Err WouldLoop else Ok (d, to)) else Err WrongKind)

unfoldable pub move_check : Dbref → Dbref → List Entry → Result (ℕ × ℕ) DbFault
move_check d to es =
    option_map_or (λ n. option_map_or (λ t. move_judged n t es) (number_in es to) (Err NoSuchObject)) (number_in es d) (Err NoSuchObject)

-- what a call does that takes no memory: its change, or the first refusal and nothing
abbrev pub Does : {X : Type 0} → (X → List Entry → List Entry) → Result X DbFault → List Entry → List Entry → Result (Unit {0}) DbFault → Type 0
Does change (Ok x) old new result = (result ≡ Ok tt) × (new ≡ change x old)
Does change (Err fault) old new result = (result ≡ Err fault) × (new ≡ old)

abbrev pub Moves : Result (ℕ × ℕ) DbFault → List Entry → List Entry → Result (Unit {0}) DbFault → Type 0
Moves check old new result = Does (λ p. moved p.0 p.1) check old new result
