use Rattle.std.proofs.Common.{◌≡◌, take}
use Rattle.std.specs.Option.{option_copied}
use Rattle.muck_queue.specs.Queues.{is_process_due, earliest}
use Rattle.muck_queue.proofs.processes.earliest.Given as goal

abbrev pub invariant-loop-p : goal.invariant-loop-p
invariant-loop-p l = option_copied l.best ≡ earliest (is_process_due l.moment l.claims) (take l.p-index l.processes)
