use Rattle.muck_turns.proofs.Hooks.{one_started}
use Rattle.muck_turns.proofs.state.State.start_one.Goals as goal

pub returns : goal.returns
returns c = one_started _ _ _ _ c.args.self.now c.begin-begun.new.self c.begin-begun.result c.more_is.result c.manner-manner.ensures c.in_ok-copy.ensures c.begin-begun.ensures c.more_is.ensures
