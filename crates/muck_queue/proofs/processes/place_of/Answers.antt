use Rattle.std.proofs.Common.{◌≡◌, ◌∙◌, ap, arith}
use Rattle.std.proofs.lemmas.Int.{to_z-of_z}
use Rattle.std.specs.List.{position}
use Rattle.muck_laws.proofs.Tests.{position_or, position_within}
use Rattle.muck_queue.specs.Queues.{has_pid}
use Rattle.muck_queue.proofs.processes.place_of.Goals as goal

pub returns-clause-at : goal.returns-clause-at
returns-clause-at c =
    let h = c.ranges.pid in
    c.unwrap_or.ensures ∙ position_or (has_pid c.args.pid) c.args.processes.now.items _ _ ((simp to_z-of_z at c.found_at.ensures) ∙ ap (position (has_pid c.args.pid)) c.deref.ensures.value) (omega arith)

pub returns-clause-within : goal.returns-clause-within
returns-clause-within c =
    let h = c.ranges.pid in
    let e : c.unwrap_or.result ≡ _ = c.unwrap_or.ensures ∙ position_or (has_pid c.args.pid) c.args.processes.now.items _ _ ((simp to_z-of_z at c.found_at.ensures) ∙ ap (position (has_pid c.args.pid)) c.deref.ensures.value) (omega arith) in
    omega (arith, e, position_within (has_pid c.args.pid) c.args.processes.now.items)
