use Rattle.std.proofs.Common.{◌∙◌, ap, List}
use Rattle.muck_db.specs.declared.slot.Slot.{Slot}
use Rattle.muck_db.specs.inner.Slots.{entries_of}
use Rattle.muck_store.proofs.Sound.{whole_hangs}
use Rattle.muck_db.proofs.Loading.{slots_few, slots_kept, entries-slots_of}
use Rattle.muck_db.proofs.db.Db.load.Goals as goal

pub players_of-requires : goal.players_of-requires
players_of-requires c = slots_few _ _ c.in_ok-slots.ensures c.requires.few

pub of_slots-requires : goal.of_slots-requires
of_slots-requires c = slots_few _ _ c.in_ok-slots.ensures c.requires.few

pub invariant_of-result : goal.invariant_of-result
invariant_of-result c = record { kept = slots_kept c.args.records.now _ _ c.in_ok-slots.ensures c.in_ok-players.ensures (whole_hangs c.args.records.now c.requires.few c.requires.whole) c.requires.fits; tied = c.in_ok-ties.ensures }

pub returns : goal.returns
returns c = ap (λ (z : List Slot). entries_of z) c.in_ok-slots.ensures ∙ entries-slots_of c.args.records.now (whole_hangs c.args.records.now c.requires.few c.requires.whole).world
