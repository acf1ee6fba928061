-- Whose the entries of a history are, and in which worlds some of them were made.
use Rattle.std.specs.Prelude.{ℕ, Bool, true, false, if◌then◌else◌, List, [], ◌∷◌}
use Rattle.muck_model.specs.declared.event.Entry.{Entry}
use Rattle.muck_model.specs.declared.event.Event.{Event}
use Rattle.muck_model.specs.declared.event.Event.TheVariants.{Halt}
use Rattle.turn_lock.specs.Histories.{own_of}
use Rattle.spec_events.specs.World.{World}
use Rattle.spec_events.specs.Steps.{effect}

abbrev pub party_of : Entry → ℕ
party_of e = e.party

-- the entries of a party, in order
abbrev pub own_entries : ℕ → List Entry → List Entry
own_entries party h = own_of party_of party h

-- the worlds in which the entries that pass a test were made, from the first on
abbrev pub worlds_at : (Entry → Bool) → World → List Entry → List World
worlds_at test w [] = []
worlds_at test w (e ∷ es) = if test e then w ∷ worlds_at test (effect w e) es else worlds_at test (effect w e) es

abbrev pub halts : Event → Bool
halts Halt = true
halts event = false

abbrev pub is_halt : Entry → Bool
is_halt e = halts e.event
