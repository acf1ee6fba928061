use Rattle.std.proofs.Common.{subst}
use Rattle.spec_events.specs.World.{World}
use Rattle.spec_events.specs.Starting.{process_joined}
use Rattle.muck_turns.specs.inner.Deeds.{Begins}
use Rattle.muck_turns.specs.contracts.state.State as state
use Rattle.muck_turns.proofs.Joining.{is_adding, joins}
use Rattle.muck_turns.proofs.state.State.join.Goals as goal

pub started-requires : goal.started-requires
started-requires c = is_adding c.args.process c.tune-tune.result (state.the_view c.self.inside).queue c.add-added.new.self c.add-added.result c.add-added.ensures

pub returns : goal.returns
returns c =
    let P : World → Type 0 = λ v. Begins (process_joined c.args.process v) (state.the_view (record c.self.inside { queue = c.add-added.new.self })) c.started.result in
    subst P c.self.view_is (joins c.args.process (state.the_view c.self.inside) c.add-added.new.self c.tune-tune.result c.tune-tune.ensures c.add-added.result c.started.result c.add-added.ensures c.started.ensures)
