use Rattle.std.proofs.Common.{◌∙◌}
use Rattle.muck_db.proofs.Counting.{count_entries}
use Rattle.muck_db.proofs.moves.count_there.Goals as goal

pub returns : goal.returns
returns c = c.count_slots.ensures ∙ count_entries c.args.slots.now.items
