use Rattle.std.proofs.Common.{◌∙◌}
use Rattle.muck_run.proofs.Drilled.{round_pushed}
use Rattle.muck_run.proofs.drilling.push_round.Goals as goal

pub returns : goal.returns
returns c =
    round_pushed _ _ _ _ _ _ c.args.i _ (c.deref.ensures.value ∙ c.in_ok-text.ensures) c.in_ok-push_numbered.ensures c.in_ok-push_numbered-2.ensures c.in_ok-push_send.ensures c.in_ok-push_numbered-3.ensures c.in_ok-push_numbered-4.ensures
