-- What of a history none of its entries has.
use Rattle.std.specs.Prelude.{◌≡◌, List, [], ◌∷◌, None}
use Rattle.muck_model.specs.declared.note.Note.{Note}
use Rattle.spec_events.specs.World.{World}
use Rattle.spec_events.specs.Histories.{History}
use Rattle.spec_events.specs.Logged.{loose_notes, loose_count}
use Rattle.muck_machine.specs.declared.beginning.Beginning.{Beginning}

abbrev pub beginning : History → Beginning
beginning h = record { world = h.start; notes = loose_notes h; counted = loose_count h }

-- a world as it is shared, with the note of its mounting
abbrev pub begun : World → Note → Beginning
begun w mounting = record { world = w; notes = mounting ∷ []; counted = None }

-- what a seat has of the beginning of a world that is shared
pub record IsBegun (root : List Beginning) : Type 0 where
  pub world : World
  pub mounting : Note
  pub is : root ≡ begun world mounting ∷ []
