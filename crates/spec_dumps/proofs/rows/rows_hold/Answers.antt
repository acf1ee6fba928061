use Rattle.spec_dumps.proofs.Worked.{rows}
use Rattle.spec_dumps.proofs.rows.rows_hold.Goals as goal

pub returns : goal.returns
returns c = rows
