use Rattle.std.proofs.Common.{ap, ◌∙◌}
use Rattle.muck_laws.proofs.Results.{on_err_as}
use Rattle.muck_run.specs.Drill.{summary}
use Rattle.muck_run.proofs.Drilled.{drilled_as, played_short}
use Rattle.muck_run.proofs.drilling.drilled.Goals as goal

pub returns-clause-drilled : goal.returns-clause-drilled
returns-clause-drilled c =
    drilled_as c.args.count _ _ _ _ c.in_ok-transcript.ensures.played (c.objects.ensures c.in_ok-transcript.ensures.played.alive)
    (c.in_ok-text.ensures ∙ ap (summary c.args.count c.objects.result) c.bytes.ensures)

pub returns-in_err-text-clause-short : goal.returns-in_err-text-clause-short
returns-in_err-text-clause-short c = on_err_as c.from_residual-in_err-text.result (played_short c.args.count _ _ c.in_ok-transcript.ensures.played)
