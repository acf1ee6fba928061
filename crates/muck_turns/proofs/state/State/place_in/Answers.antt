use Rattle.std.proofs.Common.{rules, ◌≡◌, ◌∙◌, ap}
use Rattle.std.specs.Prelude.{slice_get}
use Rattle.spec_prims.specs.Asking.{object_numbered}
use Rattle.spec_events.specs.Slices.{callers, nearest}
use Rattle.muck_turns.proofs.Deeds.{callers_numbered}
use Rattle.muck_turns.proofs.Processes.{first_nearest}
use Rattle.muck_turns.proofs.state.State.place_in.Goals as goal

pub returns : goal.returns
returns c =
    let row : c.in_ok-callers.callers ≡ callers c.args.running.now = callers_numbered c.in_ok-callers.callers c.args.running.now c.in_ok-callers.ensures in
    let number : c.program.result ≡ object_numbered c.args.running.now.program.number = ap object_numbered c.program.ensures in
    let first : c.copied.result ≡ slice_get c.in_ok-callers.callers 0 = search rules in
    let caller : c.copied.result ≡ nearest (callers c.args.running.now) = first ∙ first_nearest c.in_ok-callers.callers ∙ ap nearest row in
    search (rules, number, caller)
