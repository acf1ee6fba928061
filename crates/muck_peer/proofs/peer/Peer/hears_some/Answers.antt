use Rattle.std.proofs.Common.{refl}
use Rattle.muck_links.proofs.Keys.{told_same}
use Rattle.muck_peer.proofs.Stepping.{link_same}
use Rattle.muck_peer.proofs.peer.Peer.hears_some.Goals as goal

pub returns-then-self-clause-ok : goal.returns-then-self-clause-ok
returns-then-self-clause-ok g c t counted = link_same counted _ _ _ (told_same _ (λ s. s) (λ s. refl) _)
