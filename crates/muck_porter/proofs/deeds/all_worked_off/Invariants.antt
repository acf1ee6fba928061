use Rattle.std.proofs.Common.{◌≡◌, ℕ, ◌<◌}
use mathlib.Core.Option.{some}
use lib.ListN.{get_elem?}
use Rattle.spec_events.specs.Histories.{now}
use Rattle.spec_serve.specs.inner.Keeping.{Peer}
use Rattle.muck_peer.specs.Moves.{IsWorkedOff}
use Rattle.muck_porter.proofs.deeds.all_worked_off.Given as goal

abbrev pub invariant-loop-p : goal.invariant-loop-p
invariant-loop-p l = (i : ℕ) (p : Peer) → i < l.p-index → get_elem? l.peers.items i ≡ some p → IsWorkedOff p (now l.world)
