use Rattle.std.proofs.Common.{ap, subst, sym}
use Rattle.std.specs.Option.{option_map}
use Rattle.muck_queue.specs.declared.process.Process.{Process}
use Rattle.muck_queue.specs.Queues.{Queue, reader}
use Rattle.muck_queue.specs.inner.Known.{Knows}
use Rattle.muck_queue.proofs.Known.{none_reads}
use Rattle.muck_queue.proofs.queue.Queue.reader.Goals as goal

pub returns-then-not-self : goal.returns-then-not-self
unfolding reader
returns-then-not-self c =
    let known = subst (λ (q : Queue). Knows c.self.inside.tied c.self.inside.soonest q.processes) c.self.view_is c.self.invariant.1 in
    sym (ap (option_map (λ (p : Process). p.number)) (none_reads c.args.d _ _ _ known c.if-not-self.true))
