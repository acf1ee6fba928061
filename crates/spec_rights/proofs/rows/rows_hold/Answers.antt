use Rattle.spec_rights.specs.inner.LevelRows.{level_rows}
use Rattle.spec_rights.specs.inner.RuleRows.{reaching, moving, making, ending}
use Rattle.spec_rights.proofs.rows.rows_hold.Goals as goal

pub returns : goal.returns
returns c = record { levels = level_rows; reaching = reaching; moving = moving; making = making; ending = ending }
