use Rattle.std.proofs.Common.{subst}
use Rattle.muck_db.specs.inner.Ties.{Tethers}
use Rattle.muck_db.proofs.Tying.{noted_kept, noted_else}
use Rattle.muck_db.proofs.ties.Ties.loosen.Goals as goal

pub returns-then-d-len-clause-others : goal.returns-then-d-len-clause-others
returns-then-d-len-clause-others c = λ e j ne h. noted_kept _ c.in-Some.d e j c.index_mut.result.now c.leave_out.new.self c.index_mut.ensures.value (c.leave_out.ensures j ne) h

pub returns-then-d-len-clause-still : goal.returns-then-d-len-clause-still
returns-then-d-len-clause-still c = λ e way h. noted_else _ c.in-Some.d e c.args.k c.leave_out.new.self (λ q. c.tethers.ensures c.if-tethers.false (subst (Tethers c.args.tether) q way)) h
