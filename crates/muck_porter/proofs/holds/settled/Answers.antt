use Rattle.std.proofs.Common.{sym, ap}
use Rattle.muck_porter.specs.inner.Reaches.{settled_as}
use Rattle.muck_porter.proofs.holds.settled.Goals as goal

pub returns-in-Done : goal.returns-in-Done
returns-in-Done c = sym (ap settled_as c.in-Done.is)

pub returns-in-Timed : goal.returns-in-Timed
returns-in-Timed c = sym (ap settled_as c.in-Timed.is)

pub returns-in-Dead : goal.returns-in-Dead
returns-in-Dead c = sym (ap settled_as c.in-Dead.is)
