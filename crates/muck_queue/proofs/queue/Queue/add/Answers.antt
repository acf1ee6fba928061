use Rattle.std.proofs.Common.{sym, ◌∙◌}
use Rattle.muck_queue.proofs.Full.{number_left}
use Rattle.muck_queue.proofs.queue.Queue.add.Goals as goal

pub append-requires : goal.append-requires
append-requires c = number_left _ _ _ (sym c.is_full.ensures ∙ c.if-is_full.false)
