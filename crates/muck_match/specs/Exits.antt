-- Which exit a line takes, and which exit a text names.
use Rattle.std.specs.Prelude.{ℕ, ◌+◌, Bool, ◌&&◌, ◌||◌, ◌==◌, slice_index, true, List, [], ◌∷◌, map, length, Option, Some, None, if◌then◌else◌}
use Rattle.std.specs.Option.{option_map_or}
use Rattle.std.specs.List.{filter, flat_map}
use Rattle.muck_model.specs.declared.dbref.Dbref.{Dbref}
use Rattle.muck_match.specs.Words.{is_same, begins_alike, Alias, aliases}
use Rattle.muck_match.specs.Scenery.{Sight, Scenery, sees, is_program, exit_order}
use Rattle.muck_match.specs.declared.exits.ExitHit.{ExitHit}

abbrev pub first_item : {X : Type 0} → List X → Option X
first_item [] = None
first_item (x ∷ xs) = Some x

-- an alias takes a line that equals it, and where an argument may follow, also one that begins with it and a space
unfoldable pub alias_takes : Bool → List ℕ → List ℕ → Bool
alias_takes argument line alias = is_same alias line || (argument && (begins_alike alias line && slice_index line (length alias) == 32))

-- where the argument begins in the line
unfoldable pub rest_behind : List ℕ → List ℕ → ℕ
rest_behind line alias = if is_same alias line then length line else length alias + 1

abbrev pub hit_of : Dbref → List ℕ → Alias → ExitHit
hit_of exit line alias = record { exit = exit; alias = (alias.from, alias.to); rest = rest_behind line alias.text }

-- the aliases of a name that take the line
unfoldable pub hits_in : Dbref → Bool → List ℕ → List ℕ → List ExitHit
hits_in exit argument line name = map (hit_of exit line) (filter (λ alias. alias_takes argument line alias.text) (aliases name))

-- the exit leads to a program
unfoldable pub leads_to_program : Scenery → Sight → Bool
leads_to_program w exit = sees (λ s. is_program s.kind) w exit.link

-- the aliases of an exit that take the line; what is typed may have an argument for a program
unfoldable pub hits_at : Scenery → Bool → List ℕ → Dbref → List ExitHit
hits_at w typed line exit = option_map_or (λ s. hits_in exit (typed && leads_to_program w s) line s.name) (w.sight exit) []

-- those of the exits on an object
unfoldable pub hits_on : Scenery → Bool → List ℕ → Dbref → List ExitHit
hits_on w typed line owner = flat_map (hits_at w typed line) (w.exits owner)

-- those of all exits, in exit order
unfoldable pub hits : Scenery → Bool → List ℕ → Dbref → List ExitHit
hits w typed line player = flat_map (hits_at w typed line) (exit_order w player)

-- the first exit in order of which an alias takes the typed line, with its first such alias
unfoldable pub exit_for : Scenery → Dbref → List ℕ → Option ExitHit
exit_for w player line = first_item (hits w true line player)
