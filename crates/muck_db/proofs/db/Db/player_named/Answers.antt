use Rattle.muck_db.proofs.Listing.{listed_scenery}
use Rattle.muck_db.proofs.db.Db.player_named.Goals as goal

pub player_among-requires : goal.player_among-requires
player_among-requires c = listed_scenery c.self.inside.slots.items _ _ _ c.self.view_is c.deref.ensures.value c.self.invariant.kept.listed
