use Rattle.std.proofs.Common.{◌≡◌, ℕ, ◌<◌, true}
use Rattle.spec_live.specs.Objects.{is_player}
use Rattle.muck_match.specs.inner.Listed.{IsAmong}
use Rattle.muck_db.specs.inner.Slots.{kind_at}
use Rattle.muck_db.proofs.players.players_of.Given as goal

abbrev pub invariant-loop-k : goal.invariant-loop-k
invariant-loop-k l = (j : ℕ) → j < l.k → is_player (kind_at l.slots.items j) ≡ true → IsAmong l.players.items j
