use Rattle.std.proofs.Common.{refl, ◌∙◌, arith}
use Rattle.muck_laws.proofs.Results.{on_error}
use Rattle.muck_log.proofs.Mounting.{quiet_too}
use Rattle.muck_follow.proofs.Replies.{line_done, line_cut_short, lines_done, stopped}
use Rattle.muck_follow.proofs.following.run.Goals as goal

pub loop-act-preserved : goal.loop-act-preserved
loop-act-preserved g c = record {
  told = λ t.
      line_done c.args.acts.now c.loop-act.act-index _ _ _ (g.D.Disk.seen c.loop-act.disk) _ _ _ _ _ _ _ c.loop-act-test.true refl (c.loop-act.invariant.seen t)
      (c.loop-act.invariant.told t) (c.deref.ensures.value ∙ c.in_ok-text.ensures.text t) (c.in_ok-text.ensures.left t) c.in_ok-write_all.ensures.ok;
  fine = c.in_ok-write_all.ensures.fine ∙ c.loop-act.invariant.fine;
  attached = c.reply.ensures.attached ∙ c.loop-act.invariant.attached;
  seen = λ t. c.reply.ensures.seen t ∙ c.loop-act.invariant.seen t;
  any = λ t. quiet_too g.D.Disk.seen g.D.Disk.moment g.D.Disk.images c.args.disk.now c.loop-act.disk c.reply.new.disk (c.loop-act.invariant.any t) (c.reply.ensures.any t);
  later = omega (arith, c.loop-act.invariant.later, c.reply.ensures.later);
}

pub returns-in_err-text-clause-front : goal.returns-in_err-text-clause-front
returns-in_err-text-clause-front g c t = on_error _ _ c.from_residual.result _ (stopped _ _ _ _ _ _ _ (c.loop-act.invariant.told t))

pub returns-in_err-write_all-clause-front : goal.returns-in_err-write_all-clause-front
returns-in_err-write_all-clause-front g c t =
    on_error _ _ c.from_residual-in_err-write_all.result _
    (line_cut_short c.args.acts.now c.loop-act.act-index _ _ _ (g.D.Disk.seen c.loop-act.disk) _ _ _ _ _ _ c.loop-act-test.true refl (c.loop-act.invariant.seen t)
    (c.loop-act.invariant.told t) (c.deref.ensures.value ∙ c.in_ok-text.ensures.text t) c.in_err-write_all.ensures.front)

pub returns-clause-whole : goal.returns-clause-whole
returns-clause-whole g c t = lines_done _ _ _ _ _ _ _ c.loop-act-test.false (c.loop-act.invariant.told t)
