-- A line of a player: what it leaves to the keepers, who alone retune the world, and that what it does is open to who types it.
use Rattle.std.proofs.Common.{◌≡◌, ℕ, true, List, subst, Option, None}
use Rattle.muck_model.specs.declared.tune.Tune.{Tune}
use Rattle.spec_live.specs.Lives.{Live}
use Rattle.spec_live.proofs.Keeping.{Keeps, keeps_more}
use Rattle.spec_rights.specs.declared.act.Actor.{Actor}
use Rattle.spec_rights.specs.Verdict.{is_master}
use Rattle.spec_rights.proofs.Licences.{Whole, Always}
use Rattle.spec_rights.proofs.Shown.{quiet_tell}
use Rattle.spec_commands.specs.declared.outcome.Outcome.{Outcome}
use Rattle.spec_commands.specs.declared.outcome.Outcome.TheVariants.{NotMine, Retune}
use Rattle.spec_commands.specs.Free.{free_line}
use Rattle.spec_commands.specs.Commands.{played}
use Rattle.spec_commands.specs.Going.{ended}
use Rattle.spec_commands.proofs.Gone.{world_of}
use Rattle.spec_commands.proofs.Plain.{Untuned}
use Rattle.spec_commands.proofs.Lawful.{open_quiet}
use Rattle.spec_commands.proofs.Permitted.{Leaves, keeps_or, played_leading}
use Rattle.muck_queue.specs.Queues.{Queue}
use Rattle.muck_model.specs.Parameters.{IsInRange}
use Rattle.spec_admin.proofs.Following.{AsFollows}
use Rattle.spec_admin.proofs.Permitted.{admin_leading}
use Rattle.spec_events.specs.Lines.{by_keeper, typed}

-- a line that is neither a player's nor a builder's changed nothing
pub left_to_keepers : (d : ℕ) (a : Actor) (line : List ℕ) (w : Live) → (played d a line w).1 ≡ NotMine → (played d a line w).0 ≡ w
left_to_keepers d a line w e = subst (λ (outcome : Outcome). Leaves (Untuned w) w ((played d a line w).0, outcome)) e ((played_leading a None d line).left.law w)

-- Only a wizard's line retunes, and keeps to the ranges.

abbrev pub MayRetune : Actor → Live → Tune → Type 0
MayRetune a w tune = (is_master a ≡ true) × (IsInRange w.board.tune → IsInRange tune)

abbrev Retunes : Actor → Live → Outcome → Type 0
Retunes a w (Retune tune) = MayRetune a w tune
Retunes a w outcome = Unit {0}

player_retunes : (a : Actor) (w v : Live) (outcome : Outcome) → Leaves (Untuned w) w (v, outcome) → Retunes a w outcome
player_retunes a w v (Retune tune) h = absurd h
player_retunes a w v outcome h = tt

keeper_retunes : (a : Actor) (w v : Live) (outcome : Outcome) → Leaves (AsFollows a w) w (v, outcome) → Retunes a w outcome
keeper_retunes a w v (Retune tune) h = h
keeper_retunes a w v outcome h = tt

line_retunes : (q : Queue) (d : ℕ) (a : Actor) (line : List ℕ) → Keeps (λ (w : Live) (y : Live × Outcome). Retunes a w y.1) (typed q d a line)
unfolding typed by_keeper ended
line_retunes q d a line =
    let player = played_leading a None d line in
    let keeper = admin_leading a None (free_line a line) q d line in
    keeps_or Untuned _ _ player.left (keeps_more _ (λ w y h. player_retunes a w y.0 y.1 h) player.left)
    (keeps_or (AsFollows a) _ _ keeper.left (keeps_more _ (λ w y h. keeper_retunes a w y.0 y.1 h) keeper.left) (record { law = λ w. tt }))

pub typed_retunes : (q : Queue) (d : ℕ) (a : Actor) (line : List ℕ) (w : Live) (tune : Tune) → (typed q d a line w).1 ≡ Retune tune → MayRetune a w tune
typed_retunes q d a line w tune e = subst (λ (outcome : Outcome). Retunes a w outcome) e ((line_retunes q d a line).law w)

-- What a line of a player does is open to it.

pub typed_open : (a : Actor) (own : Option ℕ) (q : Queue) (d : ℕ) (line : List ℕ) → Whole world_of a own (free_line a line) Always (typed q d a line)
unfolding typed by_keeper
typed_open a own q d line =
    let player = played_leading a own d line in
    let keeper = admin_leading a own (free_line a line) q d line in
    keeps_or Untuned _ _ player.left player.licence
    (keeps_or (AsFollows a) _ _ keeper.left keeper.licence (open_quiet a own (free_line a line) _ _ (quiet_tell d _)))
