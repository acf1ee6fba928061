use Rattle.std.proofs.Common.{refl}
use Rattle.muck_run.proofs.Drilled.{summed}
use Rattle.muck_run.proofs.drilling.summary.Goals as goal

pub returns : goal.returns
returns c = summed _ _ _ _ _ _ c.args.count c.args.objects c.args.shown.now _ _ c.count_lines.ensures refl c.new-text.ensures.items c.in_ok-push_number.ensures c.in_ok-push_number-2.ensures c.in_ok-push_number-3.ensures c.in_ok-push_number-4.ensures c.in_ok-extend_from_slice.ensures.items
