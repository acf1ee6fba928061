use Rattle.std.proofs.Common.{refl}
use Rattle.muck_porter.proofs.Turning.{none_yet}
use Rattle.muck_porter.proofs.holds.begins.Goals as goal

pub takes-requires-clause-rests : goal.takes-requires-clause-rests
takes-requires-clause-rests g c = (0, c.requires.ready.rests)

pub marks-requires : goal.marks-requires
marks-requires g c = none_yet c.args.noted.now c.args.seat.now.me c.takes.new.seat.me c.in-Ok.held.state c.requires.ready (c.in-Ok.ensures.ok 0 c.requires.ready.rests)

pub returns-in-Ok-clause-ok : goal.returns-in-Ok-clause-ok
returns-in-Ok-clause-ok g c = record { given = c.in-Ok.held.state; turn = c.in-Ok.ensures.ok 0 c.requires.ready.rests; marked = c.marks.ensures }

pub returns-in-Err-clause-left : goal.returns-in-Err-clause-left
returns-in-Err-clause-left g c = (c.in-Err.ensures.left 0 c.requires.ready.rests, c.in-Err.ensures.waited.1)

pub returns-in-Err-clause-waited : goal.returns-in-Err-clause-waited
returns-in-Err-clause-waited g c = (c.in-Err.ensures.waited.0, refl)
