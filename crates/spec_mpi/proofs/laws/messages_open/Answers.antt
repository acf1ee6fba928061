use Rattle.spec_mpi.proofs.Leave.{heard_open}
use Rattle.spec_mpi.proofs.laws.messages_open.Goals as goal

pub returns : goal.returns
returns c = record { law = heard_open }
