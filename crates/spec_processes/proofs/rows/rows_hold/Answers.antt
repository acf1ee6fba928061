use Rattle.spec_processes.specs.inner.Worked.{worked_rows}
use Rattle.spec_processes.proofs.rows.rows_hold.Goals as goal

pub returns : goal.returns
returns c = worked_rows
