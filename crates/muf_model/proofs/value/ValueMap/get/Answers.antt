use Rattle.muf_model.proofs.Edited.{keys_rise}
use Rattle.muf_model.proofs.value.ValueMap.get.Goals as goal

pub value_of-requires : goal.value_of-requires
value_of-requires c = keys_rise c.deref.result.now c.self.inside.pairs.items c.self.inside.size c.deref.ensures.value c.self.invariant
