use Rattle.std.proofs.Common.{ap, ◌∙◌}
use Rattle.std.specs.Ordering.{int_eq}
use Rattle.std.specs.List.{list_any}
use Rattle.muf_running.specs.inner.Fitting.{numbers_in, number_among}
use Rattle.muf_running.proofs.Process.{runs_at}
use Rattle.muf_running.proofs.running.Running.runs.Goals as goal

pub returns : goal.returns
returns c =
    c.has_program.ensures ∙ ap (λ xs. list_any (λ e. int_eq e.program.0 c.args.program.0) xs) c.deref.ensures.value ∙ runs_at c.args.program.0 c.self.inside.programs.items ∙ ap (number_among c.args.program.0) (c.self.invariant.1 ∙ ap numbers_in c.self.view_is)
