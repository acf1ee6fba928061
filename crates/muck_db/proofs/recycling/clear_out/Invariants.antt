use Rattle.std.proofs.Common.{◌≡◌, ◌<◌, false, length}
use Rattle.spec_live.specs.Objects.{list_in}
use Rattle.spec_live.specs.Recycling.{sent_home, untied}
use Rattle.spec_live.proofs.HomeLaws.{IsUntied}
use Rattle.muck_db.specs.inner.Slots.{entries_of, HasOrder}
use Rattle.muck_db.specs.inner.Ties.{HasTies}
use Rattle.muck_db.proofs.recycling.clear_out.Given as goal

abbrev pub invariant-loop-x : goal.invariant-loop-x
invariant-loop-x l = record {
  order : HasOrder l.slots.items;
  known : l.d < length l.slots.items;
  free : IsUntied l.d (entries_of l.slots.items);
  sent : sent_home (list_in false (entries_of l.slots.items) l.d) (entries_of l.slots.items) ≡ sent_home (list_in false (entries_of l.fn.slots.items) l.d) (untied l.d (entries_of l.fn.slots.items));
  tied : HasTies l.slots.items l.ties.of.items;
}

abbrev pub decreases-loop-x : goal.decreases-loop-x
decreases-loop-x l = length (list_in false (entries_of l.slots.items) l.d)
