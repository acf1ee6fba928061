use Rattle.muck_db.proofs.Linked.{linked}
use Rattle.muck_db.proofs.links.link.Goals as goal

pub returns : goal.returns
returns c = linked _ _ _ _ c.set_next.new.slots.items _ c.requires.ends c.requires.nowhere c.requires.known c.requires.place (rw (← c.first_of-first.ensures) c.set_next.ensures.items) c.set_first.ensures.items
