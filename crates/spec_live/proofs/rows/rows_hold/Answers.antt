use Rattle.spec_live.specs.inner.Rows.{rows}
use Rattle.spec_live.specs.inner.LockRows.{lock_rows}
use Rattle.spec_live.specs.inner.PasswordRows.{password_rows}
use Rattle.spec_live.proofs.rows.rows_hold.Goals as goal

pub returns : goal.returns
returns c = record { rows = rows; locks = lock_rows; passwords = password_rows }
