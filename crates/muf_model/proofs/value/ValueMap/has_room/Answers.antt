use Rattle.muf_model.proofs.Edited.{keys_rise}
use Rattle.muf_model.proofs.value.ValueMap.has_room.Goals as goal

pub entry_place-at-requires : goal.entry_place-at-requires
entry_place-at-requires c = keys_rise c.deref.result.now c.self.inside.pairs.items c.self.inside.size c.deref.ensures.value c.self.invariant
