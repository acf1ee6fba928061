use Rattle.std.proofs.Common.{refl}
use Rattle.muck_porter.proofs.porting.porter.Goals as goal

pub serves-requires : goal.serves-requires
serves-requires g c = record { ready = c.requires.ready; seat = c.requires.own; noted = refl; broke = refl; peers = c.new-peers.ensures.items; coming = refl }
