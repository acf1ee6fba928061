use Rattle.spec_hooks.specs.inner.Worked.{worked_rows}
use Rattle.spec_hooks.proofs.rows.rows_hold.Goals as goal

pub returns : goal.returns
returns c = worked_rows
