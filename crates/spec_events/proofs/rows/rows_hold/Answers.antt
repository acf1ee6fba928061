use Rattle.spec_events.specs.inner.Rows.{rows}
use Rattle.spec_events.specs.inner.LineRows.{line_rows}
use Rattle.spec_events.specs.inner.DumpRows.{dump_rows}
use Rattle.spec_events.specs.inner.OwnRows.{own_rows}
use Rattle.spec_events.specs.inner.HookRows.{hook_rows}
use Rattle.spec_events.proofs.rows.rows_hold.Goals as goal

pub returns : goal.returns
returns c = record { rows = rows; lines = line_rows; dumps = dump_rows; own = own_rows; hooks = hook_rows }
