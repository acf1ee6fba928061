-- When the world begins to stop.
use Rattle.std.specs.Prelude.{◌≡◌, ◌⊎◌, ℕ, true, List, [], ◌∷◌, Some}
use Rattle.muck_model.specs.declared.dbref.Dbref.{Dbref}
use Rattle.muck_model.specs.declared.event.Entry.{Entry}
use Rattle.muck_model.specs.declared.event.Event.{Event}
use Rattle.muck_model.specs.declared.event.Event.TheVariants.{Exec, Halt}
use Rattle.spec_live.specs.Boards.{player_in}
use Rattle.spec_rights.specs.Verdict.{is_master}
use Rattle.spec_commands.specs.Finding.{actor_of}
use Rattle.spec_events.specs.World.{World}
use Rattle.spec_events.specs.Steps.{effect}

-- the player of the connection acts at the highest level
abbrev pub IsMasters : ℕ → World → Type 0
IsMasters d w = (player : Dbref) × (player_in d w.live.board ≡ Some player) × (is_master (actor_of w.live.objects player) ≡ true)

-- The porter halts it, or a line of such a player; no other entry makes it stop, or go on.
abbrev pub StopsBy : Event → World → World → Type 0
StopsBy Halt w v = v.stopping ≡ true
StopsBy (Exec d) w v = (v.stopping ≡ w.stopping) ⊎ IsMasters d w
StopsBy event w v = v.stopping ≡ w.stopping

-- it is so of each entry where it stands
abbrev pub AllStops : World → List Entry → Type 0
AllStops w [] = Unit {0}
AllStops w (entry ∷ entries) = StopsBy entry.event w (effect w entry) × AllStops (effect w entry) entries
