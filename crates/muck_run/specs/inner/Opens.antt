-- Which connections may be there in a run: those that a line of the script has asked for.
use Rattle.std.specs.Prelude.{◌≡◌, ℕ, nat_le, Bool, true, List, []}
use Rattle.std.specs.List.{list_all}
use Rattle.muck_model.specs.declared.event.Entry.{Entry}
use Rattle.muck_model.specs.declared.event.Event.{Event}
use Rattle.muck_model.specs.declared.event.Event.TheVariants.{Opened}
use Rattle.spec_events.specs.Histories.{History}
use Rattle.muck_script.specs.declared.act.Act.{Act}
use Rattle.muck_script.specs.declared.act.Act.TheVariants.{Open}

-- no connection above this is opened
abbrev pub opens_within : ℕ → Event → Bool
opens_within most (Opened d) = nat_le d most
opens_within most event = true

abbrev pub all_within : ℕ → List Entry → Bool
all_within most es = list_all (λ (e : Entry). opens_within most e.event) es

-- no line asks for one above this
abbrev pub asks_within : ℕ → Act → Bool
asks_within most (Open d) = nat_le d most
asks_within most act = true

-- nobody was connected when it began, and none above this was opened since
pub record Opens (most : ℕ) (h : History) : Type 0 where
  pub nobody : h.start.live.board.connections ≡ []
  pub opened : all_within most h.entries ≡ true
