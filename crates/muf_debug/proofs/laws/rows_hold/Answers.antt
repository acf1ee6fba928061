use Rattle.muf_debug.proofs.Rows.{rows}
use Rattle.muf_debug.proofs.laws.rows_hold.Goals as goal

pub returns : goal.returns
returns c = rows
