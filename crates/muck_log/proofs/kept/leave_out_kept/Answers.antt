use Rattle.std.proofs.Common.{rules}
use Rattle.muck_log.proofs.Written.{retained}
use Rattle.muck_log.proofs.kept.leave_out_kept.Goals as goal

pub returns : goal.returns
returns c = retained _ c.args.objects.now _ c.requires.kept (λ o b f' k. search rules) _ _ c.requires.storable c.retain.ensures.filtered
