use Rattle.std.proofs.Common.{ℕ, ◌≡◌, length, Some}
use Rattle.spec_live.specs.Chain.{walk, Ends, Member}
use Rattle.muck_db.specs.inner.Slots.{next_at}
use Rattle.muck_db.proofs.links.before.Given as goal

abbrev pub invariant-loop-at : goal.invariant-loop-at
invariant-loop-at l = record {
  ends : Ends (length l.slots.items) (next_at l.slots.items) l.at;
  later : l.at ≡ Some l.d → ⊥;
  ahead : Member l.d (walk (length l.slots.items) (next_at l.slots.items) l.at);
  within : (y : ℕ) → Member y (walk (length l.slots.items) (next_at l.slots.items) l.at) → Member y (walk (length l.slots.items) (next_at l.slots.items) l.fn.first);
}

abbrev pub decreases-loop-at : goal.decreases-loop-at
decreases-loop-at l = length (walk (length l.slots.items) (next_at l.slots.items) l.at)
