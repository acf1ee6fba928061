use Rattle.std.proofs.Common.{arith}
use Rattle.muck_db.proofs.Readers.{length-entries_of}
use Rattle.muck_db.proofs.kept.has_links.Goals as goal

pub dbref_of-requires : goal.dbref_of-requires
dbref_of-requires c = omega (arith, c.requires.known, length-entries_of c.args.slots.now.items, c.requires.order.ordered.few)
