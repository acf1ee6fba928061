use Rattle.std.proofs.Common.{length, Some}
use Rattle.spec_live.specs.Chain.{walk, Ends, Member}
use Rattle.muck_db.specs.inner.Slots.{place_at}
use Rattle.muck_db.proofs.links.leads_to.Given as goal

abbrev pub invariant-loop-at : goal.invariant-loop-at
invariant-loop-at l = record {
  ends : Ends (length l.slots.items) (place_at l.slots.items) l.at;
  ahead : Member l.d (walk (length l.slots.items) (place_at l.slots.items) (Some l.fn.start)) → Member l.d (walk (length l.slots.items) (place_at l.slots.items) l.at);
  within : Member l.d (walk (length l.slots.items) (place_at l.slots.items) l.at) → Member l.d (walk (length l.slots.items) (place_at l.slots.items) (Some l.fn.start));
}

abbrev pub decreases-loop-at : goal.decreases-loop-at
decreases-loop-at l = length (walk (length l.slots.items) (place_at l.slots.items) l.at)
