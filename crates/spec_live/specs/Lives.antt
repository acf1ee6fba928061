-- The part of the world that commands and programs change, and how changes are put together.
use Rattle.std.specs.Prelude.{ℕ, Bool, if◌then◌else◌, List, [], ◌∷◌, Option}
use Rattle.std.specs.Option.{option_map_or, option_map}
use Rattle.muck_model.specs.declared.dbref.Dbref.{Dbref}
use Rattle.spec_live.specs.Objects.{Entry, nothing, object_at}
use Rattle.spec_live.specs.Boards as boards
use Rattle.spec_live.specs.Boards.{Board}

pub record Live : Type 0 where
  pub objects : List Entry
  pub board : Board

abbrev pub Change : Type 0
Change = Live → Live

-- How changes are put together, of whatever world W.

-- f, and then g, whose answer may be more than the world
unfoldable pub change_followed : {W Y : Type 0} → (W → W) → (W → Y) → W → Y
change_followed f g w = g (f w)

abbrev pub ◌▸◌ : {W Y : Type 0} → (W → W) → (W → Y) → W → Y
◌▸◌ f g = change_followed f g

infixr 4 ◌▸◌
-- what is read is handed on
unfoldable pub reading : {W X Y : Type 0} → (W → X) → (X → W → Y) → W → Y
reading get go w = go (get w) w

unfoldable pub either : {W Y : Type 0} → Bool → (W → Y) → (W → Y) → W → Y
either b f g w = if b then f w else g w

-- go, where the world is so; otherwise not
unfoldable pub where_so : {W Y : Type 0} → (W → Bool) → (W → Y) → (W → Y) → W → Y
where_so test otherwise go = reading test (λ b. either b go otherwise)

unfoldable pub unchanged : {W : Type 0} → W → W
unchanged w = w

-- Readers.

abbrev pub place_of : Dbref → List Entry → Option Dbref
place_of d es = option_map (λ o. o.place) (object_at d es)

abbrev pub place_at : Dbref → Live → Dbref
place_at d w = option_map_or (λ o. o.place) (object_at d w.objects) nothing

abbrev pub name_at : Dbref → Live → List ℕ
name_at d w = option_map_or (λ o. o.name) (object_at d w.objects) []

-- Changes.

abbrev pub on_objects : (List Entry → List Entry) → Change
on_objects f w = record w { objects = f w.objects }

abbrev pub on_board : (Board → Board) → Change
on_board f w = record w { board = f w.board }

-- a text is sent to the connection d
unfoldable pub tell : ℕ → List ℕ → Change
tell d text = on_board (boards.told_one d text)

-- to all connections of a player
unfoldable pub tell_player : Dbref → List ℕ → Change
tell_player player text = on_board (boards.told_player player text)

-- to the players in a room but these
unfoldable pub tell_but : Dbref → List Dbref → List ℕ → Change
tell_but room but text w = on_board (boards.told_others (λ p. place_of p w.objects) room but text) w

-- to those but one
unfoldable pub tell_others : Dbref → Dbref → List ℕ → Change
tell_others room but text = tell_but room (but ∷ []) text

unfoldable pub tell_all : List ℕ → Change
tell_all text = on_board (boards.told_all text)

unfoldable pub leave : ℕ → Change
leave d = on_board (boards.leaving_one d)

-- the next random word
abbrev pub random_word : Live → ℕ
random_word w = (boards.random_drawn w.board).0

-- it is drawn
unfoldable pub draw : Change
draw = on_board (λ b. (boards.random_drawn b).1)

unfoldable pub enter : ℕ → Dbref → Change
enter d player = on_board (boards.seated_one d player)
