use Rattle.std.proofs.Common.{◌≡◌, ◌-◌, true, vec_len}
use Rattle.muck_porter.specs.inner.Moves.{Tends}
use Rattle.muck_porter.proofs.tending.tends_each.Given as goal

abbrev pub invariant-loop-at : goal.invariant-loop-at
invariant-loop-at g l =
    (g.L.Links.tells l.links ≡ g.L.Links.tells l.initial.links) × (g.L.Links.listening l.links ≡ g.L.Links.listening l.initial.links)
    × (g.L.Links.tells l.initial.links ≡ true → Tends l.noted (g.L.Links.told l.initial.links) (g.L.Links.told l.links) l.initial.peers.items l.peers.items)
    × (g.L.Links.tells l.initial.links ≡ true → (g.L.Links.told l.links).ports ≡ (g.L.Links.told l.initial.links).ports)

abbrev pub decreases-loop-at : goal.decreases-loop-at
decreases-loop-at g l = vec_len l.peers - l.at
