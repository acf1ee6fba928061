use Rattle.std.proofs.Common.{◌∙◌, ap, List}
use Rattle.muck_db.specs.declared.slot.Slot.{Slot}
use Rattle.muck_db.specs.inner.Slots.{entries_of}
use Rattle.muck_db.proofs.Starting.{first_few, first_kept, entries_first}
use Rattle.muck_db.proofs.db.Db.starting.Goals as goal

pub players_of-requires : goal.players_of-requires
players_of-requires c = first_few _ c.in_ok-slots.ensures

pub of_slots-requires : goal.of_slots-requires
of_slots-requires c = first_few _ c.in_ok-slots.ensures

pub invariant_of-result : goal.invariant_of-result
invariant_of-result c = record { kept = first_kept _ _ c.in_ok-slots.ensures c.in_ok-players.ensures; tied = c.in_ok-ties.ensures }

pub returns : goal.returns
returns c = ap (λ (z : List Slot). entries_of z) c.in_ok-slots.ensures ∙ entries_first
