use Rattle.spec_mpi.proofs.Leave.{heard_touches}
use Rattle.spec_mpi.proofs.laws.messages_touch.Goals as goal

pub returns : goal.returns
returns c = record { law = heard_touches }
