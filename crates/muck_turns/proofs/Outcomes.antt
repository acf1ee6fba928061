-- A command that is done isn't left to the next crate.
use Rattle.std.proofs.Common.{◌≡◌, ℕ, List, refl}
use Rattle.spec_live.specs.Lives.{Live}
use Rattle.spec_rights.specs.declared.act.Actor.{Actor}
use Rattle.spec_commands.specs.declared.outcome.Outcome.{Outcome}
use Rattle.spec_commands.specs.declared.outcome.Outcome.TheVariants.{NotMine}
use Rattle.spec_commands.specs.Going.{Play}
use Rattle.spec_commands.specs.Commands.{or_next}
use Rattle.muck_queue.specs.Queues.{Queue}
use Rattle.spec_events.specs.Lines.{ended_behind}

pub or_next_mine : (next : Play) (w : Live) (outcome : Outcome) → (outcome ≡ NotMine → ⊥) → or_next next (w, outcome) ≡ (w, outcome)
or_next_mine next w NotMine h = absurd (h refl)
or_next_mine next w outcome h = refl

-- and ends no process
pub ended_behind_mine : (a : Actor) (line : List ℕ) (q : Queue) (w : Live) (outcome : Outcome) → (outcome ≡ NotMine → ⊥) → ended_behind a line q (w, outcome) ≡ q
ended_behind_mine a line q w NotMine h = absurd (h refl)
ended_behind_mine a line q w outcome h = refl
