use Rattle.std.proofs.Common.{◌≡◌, length, false}
use Rattle.std.specs.List.{list_any}
use Rattle.spec_live.specs.Chain.{walk, Ends}
use Rattle.spec_live.specs.Objects.{is_player}
use Rattle.muck_db.specs.inner.Slots.{next_at, first_at, kind_at}
use Rattle.muck_db.proofs.setting.holds_player.Given as goal

abbrev pub invariant-loop-at : goal.invariant-loop-at
invariant-loop-at l = record {
  ends : Ends (length l.slots.items) (next_at l.slots.items) l.at;
  same : list_any (λ x. is_player (kind_at l.slots.items x)) (walk (length l.slots.items) (next_at l.slots.items) (first_at false l.slots.items l.n)) ≡ list_any (λ x. is_player (kind_at l.slots.items x)) (walk (length l.slots.items) (next_at l.slots.items) l.at);
}

abbrev pub decreases-loop-at : goal.decreases-loop-at
decreases-loop-at l = length (walk (length l.slots.items) (next_at l.slots.items) l.at)
