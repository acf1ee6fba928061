use Rattle.std.proofs.Common.{◌∙◌, List, ap, subst, sym}
use Rattle.std.specs.List.{list_any}
use Rattle.muck_queue.specs.declared.process.Process.{Process}
use Rattle.muck_queue.specs.Queues.{Queue, ended_tied, is_tied_to, with_processes}
use Rattle.muck_queue.specs.inner.Known.{Knows, has_connection}
use Rattle.muck_queue.proofs.Kept.{stands_kept}
use Rattle.muck_queue.proofs.Known.{knows_kept, none_ended}
use Rattle.muck_queue.proofs.queue.Queue.end_tied.Goals as goal

pub invariant_of-self : goal.invariant_of-self
invariant_of-self c =
    (stands_kept (is_tied_to c.args.d) _ _ _ _ _ c.self.invariant.0 c.end_tied.ensures, knows_kept _ _ _ (is_tied_to c.args.d) _ _ c.self.invariant.1 c.end_tied.ensures (c.are_tied-self-inside.ensures ∙ ap (list_any has_connection) c.deref.ensures.value))

pub returns-then-not-self : goal.returns-then-not-self
unfolding ended_tied
returns-then-not-self c =
    let known = subst (λ (q : Queue). Knows c.self.inside.tied c.self.inside.soonest q.processes) c.self.view_is c.self.invariant.1 in
    ap (λ (ps : List Process). with_processes ps c.args.self.now) (sym (none_ended c.args.d _ _ _ known c.if-not-self.true))
