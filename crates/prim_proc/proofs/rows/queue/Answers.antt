use Rattle.std.proofs.Common.{rules, ◌≡◌, Some, w32, to_z, of_z, sym, ap, ◌∙◌, subst}
use Rattle.muf_frame.specs.inner.Shown.{flat}
use Rattle.muck_perm.specs.inner.Guards.{world_of}
use Rattle.spec_processes.specs.ProcessRows.{program_starting}
use Rattle.prim_proc.specs.inner.Plans.{Plans}
use Rattle.prim_proc.specs.inner.Taken.{started_in}
use Rattle.prim_proc.proofs.Taking.{queue_at}
use Rattle.prim_proc.proofs.rows.queue.Goals as goal

pub returns : goal.returns
returns c = λ x p q.
    let w = world_of c.args.guard.now in
    let a = c.args.guard.now.actor in
    let n = to_z w32 (of_z w32 c.in-Some.seconds) in
    let seen : started_in (flat c.args.frame.now).stack ≡ Some (n, c.in-Some.program.0, c.in-Some.argument.now) = search rules in
    let same : c.in_ok-share.field-0 ≡ c.in-Some.argument.now = search rules in
    subst (λ e. Plans e x w q c.start.result) (sym (queue_at x a p w q (flat c.args.frame.now).stack n c.in-Some.program.0 c.in-Some.argument.now seen ∙ ap (λ t. program_starting w a c.in-Some.program.0 n t) (sym same)))
    (c.start.ensures x q)
