use Rattle.std.proofs.Common.{rules, ◌≡◌, Err}
use Rattle.mpi.specs.Meaning.{scene_of}
use Rattle.mpi.proofs.Acts.{deed_done, deed_fails, deed_lacks}
use Rattle.mpi.proofs.acting.does.Goals as goal

pub returns-in_err-deed-clause-thinks : goal.returns-in_err-deed-clause-thinks
returns-in_err-deed-clause-thinks g c =
    let back : c.from_residual.result ≡ Err c.in_err-deed.field-0.0 = search rules in
    rw back (deed_lacks (scene_of g.H.Host.powers c.args.place.this) c.args.function c.args.values.now (c.args.mind.now, g.H.Host.seen c.args.host.now) c.in_err-deed.field-0.0 c.in_err-deed.ensures)

pub returns-in_err-does-clause-thinks : goal.returns-in_err-does-clause-thinks
returns-in_err-does-clause-thinks g c =
    let back : c.from_residual-in_err-does.result ≡ Err c.in_err-does.field-0.0 = search rules in
    rw back (deed_fails (scene_of g.H.Host.powers c.args.place.this) c.args.function c.args.values.now c.args.mind.now (g.H.Host.seen c.args.host.now) (g.H.Host.seen c.does.new.self) c.in_ok-deed.deed c.in_err-does.field-0.0 c.in_ok-deed.ensures c.in_err-does.ensures.does)

pub returns-clause-thinks : goal.returns-clause-thinks
returns-clause-thinks g c =
    deed_done (scene_of g.H.Host.powers c.args.place.this) c.args.function c.args.values.now c.args.mind.now (g.H.Host.seen c.args.host.now) (g.H.Host.seen c.does.new.self) c.in_ok-deed.deed c.in_ok-given.given c.in_ok-deed.ensures c.in_ok-given.ensures c.in_ok-does.ensures.does
