use Rattle.std.proofs.Common.{rules, ◌≡◌, ap}
use Rattle.spec_events.specs.Slices.{acting, callers}
use Rattle.spec_prims.specs.Asking.{object_numbered}
use Rattle.muck_turns.proofs.Deeds.{callers_numbered}
use Rattle.muck_turns.proofs.state.State.actor.Goals as goal

pub returns : goal.returns
unfolding acting
returns c =
    let row : c.in_ok-callers.callers ≡ callers c.args.running.now = callers_numbered c.in_ok-callers.callers c.args.running.now c.in_ok-callers.ensures in
    let number : c.program-program.result ≡ object_numbered c.args.running.now.program.number = ap object_numbered c.program-program.ensures in
    search (rules, row, number)
