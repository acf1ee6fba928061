-- What a text names.
use Rattle.std.specs.Prelude.{ℕ, ◌==◌, Bool, true, false, ◌&&◌, List, [], ◌∷◌, ◌++◌, Option, Some, None, if◌then◌else◌, codes}
use Rattle.std.specs.Option.{option_map, option_map_or}
use Rattle.std.specs.List.{filter, find}
use Rattle.muck_model.specs.declared.dbref.Dbref.{Dbref}
use Rattle.muck_model.specs.Numbers.{dbref_written}
use Rattle.muck_match.specs.Words.{is_same, has_word}
use Rattle.muck_match.specs.Scenery.{Scenery, home, is_in_scenery, place_in_scenery, sees, is_player, numbers}
use Rattle.muck_match.specs.Exits.{first_item, hits}
use Rattle.muck_match.specs.declared.naming.Fit.{Fit}
use Rattle.muck_match.specs.declared.naming.Fit.TheVariants.{Whole, Part}
use Rattle.muck_match.specs.declared.naming.Found.{Found}
use Rattle.muck_match.specs.declared.naming.Found.TheVariants.{One, None as Nobody, Many}

-- one candidate, none or several
abbrev pub candidate_chosen : List Dbref → Found
candidate_chosen [] = Nobody
candidate_chosen (d ∷ []) = One d
candidate_chosen (d ∷ e ∷ ds) = Many

abbrev pub one_of : Option Dbref → Found
one_of None = Nobody
one_of (Some d) = One d

-- where nothing was found, what is found next
abbrev pub found_or_else : Found → Found → Found
found_or_else Nobody next = next
found_or_else (One d) next = One d
found_or_else Many next = Many

-- what two lists of candidates make together
abbrev pub joined : Found → Found → Found
joined Nobody found = found
joined (One d) Nobody = One d
joined (One d) (One e) = Many
joined (One d) Many = Many
joined Many found = Many

abbrev pub is_nobody : Found → Bool
is_nobody Nobody = true
is_nobody found = false

-- a name answers to a text that equals it, or in part, to one with which a word of it begins
unfoldable pub name_fits : Fit → List ℕ → List ℕ → Bool
name_fits Whole text name = is_same text name
name_fits Part text name = has_word text name

unfoldable pub answers_to : Fit → List ℕ → Scenery → Dbref → Bool
answers_to fit text w d = sees (λ s. name_fits fit text s.name) w d

-- what the player carries, then the contents of its place
unfoldable pub objects_near : Scenery → Dbref → List Dbref
objects_near w player = w.contents player ++ w.contents (place_in_scenery w player)

-- those among them that answer to the text
unfoldable pub near : Scenery → Fit → List ℕ → Dbref → Found
near w fit text player = candidate_chosen (filter (answers_to fit text w) (objects_near w player))

-- equal names of objects, then equal aliases of exits, of which the first wins, then parts of names of objects
unfoldable pub name_matched : Scenery → Dbref → List ℕ → Found
name_matched w player text =
    found_or_else (near w Whole text player)
    (found_or_else (one_of (option_map (λ hit. hit.exit) (first_item (hits w false text player)))) (near w Part text player))

abbrev pub is_player_named : List ℕ → Scenery → Dbref → Bool
is_player_named name w d = sees (λ s. is_player s.kind && is_same name s.name) w d

-- the lowest number of a player of that name
unfoldable pub player_named : Scenery → List ℕ → Option Dbref
player_named w name = find (is_player_named name w) (numbers w)

unfoldable pub if_there : Scenery → Dbref → Found
if_there w d = if is_in_scenery w d then One d else Nobody

-- what stands behind a `*`
abbrev pub starred : List ℕ → Option (List ℕ)
starred [] = None
starred (b ∷ name) = if b == 42 then Some name else None

-- `#N`, `*player`, or a name
unfoldable pub found_by_sign : Scenery → Dbref → List ℕ → Found
found_by_sign w player text =
    option_map_or (if_there w) (dbref_written text)
    (option_map_or (λ name. one_of (player_named w name)) (starred text) (name_matched w player text))

unfoldable pub thing_found : Scenery → Dbref → List ℕ → Found
thing_found w player text =
    if is_same text (codes "me") then if_there w player else
    (if is_same text (codes "here") then if_there w (place_in_scenery w player) else
    (if is_same text (codes "home") then One home else found_by_sign w player text))
