use Rattle.muck_db.proofs.Listing.{listed_scenery}
use Rattle.muck_db.proofs.db.Db.find.Goals as goal

pub find_among-requires : goal.find_among-requires
find_among-requires c = listed_scenery c.self.inside.slots.items _ _ _ c.self.view_is c.deref.ensures.value c.self.invariant.kept.listed
