use Rattle.muf_model.proofs.Edited.{keys_rise}
use Rattle.muf_model.proofs.value.ValueMap.place_above.Goals as goal

pub place_above-requires : goal.place_above-requires
place_above-requires c = keys_rise c.deref.result.now c.self.inside.pairs.items c.self.inside.size c.deref.ensures.value c.self.invariant
