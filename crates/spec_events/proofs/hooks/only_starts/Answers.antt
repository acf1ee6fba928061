use Rattle.spec_events.proofs.Hooking.{only_starts}
use Rattle.spec_events.proofs.hooks.only_starts.Goals as goal

pub returns : goal.returns
returns c = only_starts
