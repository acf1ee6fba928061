use Rattle.std.proofs.Common.{◌≡◌, rules}
use Rattle.muck_mpi.proofs.Hearing.{world_heard, actor_heard, open_heard, touches_heard}
use Rattle.muck_mpi.proofs.speaker.hear.Goals as goal

pub returns-clause-actor : goal.returns-clause-actor
returns-clause-actor c =
    let back : c.guard-1.given.0 ≡ c.eval.new.host.guard.now = search rules in
    rw back (actor_heard c.args.this c.args.text.now c.args.vars.now c.eval.new.vars c.args.guard.now c.eval.new.host.guard.now c.eval.result c.eval.ensures.means)

pub returns-clause-open : goal.returns-clause-open
returns-clause-open c =
    let back : c.guard-1.given.0 ≡ c.eval.new.host.guard.now = search rules in
    rw back (open_heard c.args.this c.args.text.now c.args.vars.now c.args.guard.now c.eval.new.host.guard.now c.eval.result (world_heard c.args.this c.args.text.now c.args.vars.now c.eval.new.vars c.args.guard.now c.eval.new.host.guard.now c.eval.result c.eval.ensures.means))

pub returns-clause-touches : goal.returns-clause-touches
returns-clause-touches c =
    let back : c.guard-1.given.0 ≡ c.eval.new.host.guard.now = search rules in
    rw back (touches_heard c.args.this c.args.text.now c.args.vars.now c.args.guard.now c.eval.new.host.guard.now c.eval.result (world_heard c.args.this c.args.text.now c.args.vars.now c.eval.new.vars c.args.guard.now c.eval.new.host.guard.now c.eval.result c.eval.ensures.means))
