use Rattle.std.proofs.Common.{refl}
use Rattle.std.proofs.lemmas.List.{length-reverse}
use Rattle.muck_laws.proofs.Turned.{below_height}
use Rattle.muf_frame.proofs.frame.Frame.cut.Goals as goal

pub returns-clause-value : goal.returns-clause-value
returns-clause-value c = rw (c.truncate.ensures.items, below_height, ← c.self.view_is, length-reverse) refl
