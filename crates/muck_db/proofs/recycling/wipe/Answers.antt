use Rattle.muck_db.specs.inner.Slots.{wiped}
use Rattle.muck_db.proofs.Tying.{tethered, ties_set}
use Rattle.muck_db.proofs.recycling.wipe.Goals as goal

pub retie-requires : goal.retie-requires
retie-requires c = tethered c.args.slots.now.items _ c.args.d c.tether_of-before.result c.tether_of-before.ensures.home c.tether_of-before.ensures.link c.requires.tied

pub returns-clause-tied : goal.returns-clause-tied
returns-clause-tied c = ties_set c.args.d wiped c.args.slots.now.items _ _ _ c.tether_of.result c.wipe_at.ensures c.tether_of.ensures.home c.tether_of.ensures.link c.retie.ensures.long c.retie.ensures.others c.retie.ensures.noted c.requires.tied
