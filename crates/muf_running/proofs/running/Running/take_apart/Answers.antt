use Rattle.std.proofs.Common.{reverse}
use Rattle.muf_frame.specs.inner.Shown.{flat}
use Rattle.muf_running.proofs.Process.{shows_at}
use Rattle.muf_running.proofs.running.Running.take_apart.Goals as goal

pub returns-clause-apart : goal.returns-clause-apart
returns-clause-apart c = (c.self.invariant, c.self.view_is)

pub returns-clause-shows : goal.returns-clause-shows
returns-clause-shows c =
    shows_at (reverse c.self.inside.programs.items) (flat c.self.inside.frame) c.args.self (c.self.invariant, c.self.view_is)
