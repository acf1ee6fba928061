use Rattle.std.proofs.Common.{◌∙◌, None, ap}
use Rattle.muck_porter.proofs.Doing.{tends_both, loses_both, ports_stepped}
use Rattle.muck_links.specs.Sessions.{LinksTold}
use Rattle.muck_porter.proofs.tending.tends.Goals as goal

pub returns-then-went-clause-ok : goal.returns-then-went-clause-ok
returns-then-went-clause-ok g c t = tends_both c.args.noted _ _ _ c.args.peer.now c.sends_some-went.new.self c.hears_some.new.self (c.sends_some-went.ensures.step t) (c.in-Ok.ensures.ok (c.sends_some-went.ensures.tells ∙ t))

pub returns-else-went-clause-ok : goal.returns-else-went-clause-ok
returns-else-went-clause-ok g c t = tends_both c.args.noted _ _ _ c.args.peer.now c.sends_some-went.new.self c.hears_some.new.self (c.sends_some-went.ensures.step t) (c.in-Ok.ensures.ok (c.sends_some-went.ensures.tells ∙ t))

pub returns-in-Err-clause-err : goal.returns-in-Err-clause-err
returns-in-Err-clause-err g c t = loses_both c.args.noted _ _ _ c.args.peer.now c.sends_some-went.new.self (c.sends_some-went.ensures.step t) (c.in-Err.ensures.err (c.sends_some-went.ensures.tells ∙ t))

pub returns-then-went-clause-ports : goal.returns-then-went-clause-ports
returns-then-went-clause-ports g c t = ap (λ (x : LinksTold). x.ports) (c.in-Ok.ensures.ok (c.sends_some-went.ensures.tells ∙ t) None).told ∙ ports_stepped c.args.noted _ _ _ _ (c.sends_some-went.ensures.step t)

pub returns-else-went-clause-ports : goal.returns-else-went-clause-ports
returns-else-went-clause-ports g c t = ap (λ (x : LinksTold). x.ports) (c.in-Ok.ensures.ok (c.sends_some-went.ensures.tells ∙ t) None).told ∙ ports_stepped c.args.noted _ _ _ _ (c.sends_some-went.ensures.step t)

pub returns-in-Err-clause-ports : goal.returns-in-Err-clause-ports
returns-in-Err-clause-ports g c t = ap (λ (x : LinksTold). x.ports) (c.in-Err.ensures.err (c.sends_some-went.ensures.tells ∙ t) None).told ∙ ports_stepped c.args.noted _ _ _ _ (c.sends_some-went.ensures.step t)
