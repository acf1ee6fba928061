use Rattle.std.proofs.Common.{reverse, subst, sym}
use Rattle.muf_frame.specs.inner.Shown.{Shown, flat}
use Rattle.muf_running.specs.inner.Lending.{Shows}
use Rattle.muf_running.proofs.Process.{shows_at}
use Rattle.muf_running.proofs.running.Running.frame.Goals as goal

pub returns : goal.returns
returns c =
    subst (λ (f : Shown). Shows (flat f) c.args.self.now) (sym c.get.ensures) (shows_at (reverse c.self.inside.programs.items) (flat c.self.inside.frame) c.args.self.now (c.self.invariant, c.self.view_is))
