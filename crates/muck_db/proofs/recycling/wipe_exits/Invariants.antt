use Rattle.std.proofs.Common.{◌≡◌, ℕ, ◌<◌, ◌≤◌, length}
use Rattle.std.specs.Prelude.{slice_get}
use Rattle.spec_live.specs.Chain.{walk}
use Rattle.muck_db.specs.inner.Slots.{next_at}
use Rattle.muck_db.specs.inner.Ties.{HasTies}
use Rattle.muck_db.proofs.Exiting.{WipesOn}
use Rattle.muck_db.proofs.recycling.wipe_exits.Given as goal

abbrev pub invariant-loop-at : goal.invariant-loop-at
invariant-loop-at l = record {
  wipes : WipesOn l.d l.fn.slots.items l.slots.items l.at;
  most : l.least ≤ l.d;
  below : (k : ℕ) → k < l.least → slice_get l.slots.items k ≡ slice_get l.fn.slots.items k;
  tied : HasTies l.slots.items l.ties.of.items;
}

abbrev pub decreases-loop-at : goal.decreases-loop-at
decreases-loop-at l = length (walk (length l.slots.items) (next_at l.slots.items) l.at)
