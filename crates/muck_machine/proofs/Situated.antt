-- How a connection stands, and what is lawful then.
use Rattle.std.proofs.Common.{◌≡◌, ℕ, Bool, false, List, Option, Some, None, ap, ◌∙◌}
use Rattle.std.proofs.lemmas.Bool.{cond-false}
use Rattle.muck_model.specs.declared.event.Entry.{Entry}
use Rattle.muck_model.specs.declared.event.Event.TheVariants.{Input, Closed}
use Rattle.spec_live.specs.Connections.{Connection}
use Rattle.spec_events.specs.World.{World, connection}
use Rattle.spec_events.specs.Steps.{is_lawful, is_allowed}
use Rattle.spec_events.specs.Histories.{by_porter}
use Rattle.muck_machine.specs.declared.world.situation.Situation.{Situation}
use Rattle.muck_machine.specs.inner.Situations.{situated, situation_in}

-- What was looked up.

pub some_situated : (s : Situation) (c : Connection) (b : Bool) (d : ℕ) (w : World) → s ≡ situated (Some c) b → b ≡ w.stopping → Some c ≡ connection d w → s ≡ situation_in d w
some_situated s c b d w is stopping there = is ∙ ap (situated (Some c)) stopping ∙ ap (λ (o : Option Connection). situated o w.stopping) there

pub none_situated : (d : ℕ) (w : World) → None ≡ connection d w → situated None w.stopping ≡ situation_in d w
none_situated d w there = ap (λ (o : Option Connection). situated o w.stopping) there

-- What is lawful where memory wasn't wanted.

allowed_alive : (w : World) (e : Entry) → w.dead ≡ false → is_lawful w e ≡ is_allowed w e.party e.event
unfolding is_lawful
allowed_alive w e alive = cond-false _ _ _ alive

-- a line may come just where it hears one
pub hears_lawful : (d : ℕ) (w : World) (line : List ℕ) → w.dead ≡ false → is_lawful w (by_porter (Input d line)) ≡ (situation_in d w).hears
hears_lawful d w line alive = allowed_alive w (by_porter (Input d line)) alive

-- and it may go just where it is there
pub there_lawful : (d : ℕ) (w : World) → w.dead ≡ false → is_lawful w (by_porter (Closed d)) ≡ (situation_in d w).there
there_lawful d w alive = allowed_alive w (by_porter (Closed d)) alive
