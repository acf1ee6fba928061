-- A claim of one party.
use Rattle.std.specs.Prelude.{◌≡◌, ℕ, ℤ, List, [], ◌∷◌}
use Rattle.std.specs.List.{filter}
use Rattle.muck_queue.specs.Queues.{is_on}
use Rattle.muck_model.specs.declared.event.Entry.{Entry}
use Rattle.spec_events.specs.World.{World}

-- the one claim on the process of this number is this party's
abbrev pub IsSole : ℕ → ℤ → World → Type 0
IsSole party pid w = filter (is_on pid) w.queue.claims ≡ record { number = pid; party = party } ∷ []

-- none of these entries is this party's
abbrev pub AreOthers : ℕ → List Entry → Type 0
AreOthers party [] = Unit {0}
AreOthers party (e ∷ es) = (¬ (e.party ≡ party)) × AreOthers party es
