use Rattle.spec_events.specs.Slices.{process_stands_at}
use Rattle.spec_events.proofs.Ending.{settled_ends}
use Rattle.spec_events.proofs.agents.ends_what_runs_it.Goals as goal

pub returns : goal.returns
returns c pid player s t w n h = settled_ends n (process_stands_at pid t w) h
