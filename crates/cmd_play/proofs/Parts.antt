-- Parts of texts are texts.
use Rattle.muck_lock.proofs.Places.{text_fault-take, text_fault-drop}

pub ruleset parts = (text_fault-take, text_fault-drop)
