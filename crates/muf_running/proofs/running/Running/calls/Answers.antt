use Rattle.std.proofs.Common.{ap, ◌∙◌}
use Rattle.muf_model.specs.Source.{calls_running}
use Rattle.muf_frame.specs.inner.Shown.{Shown, flat, calls_by}
use Rattle.muf_run.proofs.Lockstep.{calls_fits}
use Rattle.muf_running.proofs.running.Running.calls.Goals as goal

pub returns-clause-value : goal.returns-clause-value
returns-clause-value c =
    c.calls.ensures.value ∙ ap (λ (f : Shown). calls_by (flat f).marks) c.get.ensures ∙ calls_fits c.self.invariant.0.state ∙ ap (λ s. calls_running s.marks) c.self.view_is
