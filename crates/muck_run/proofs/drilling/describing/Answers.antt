use Rattle.muck_run.proofs.Drilled.{described}
use Rattle.muck_run.proofs.drilling.describing.Goals as goal

pub returns : goal.returns
returns c = described _ _ _ _ _ c.args.n c.new-text.ensures.items c.in_ok-push_number.ensures c.in_ok-push_number-2.ensures c.in_ok-push_number-3.ensures c.in_ok-extend_from_slice.ensures.items
