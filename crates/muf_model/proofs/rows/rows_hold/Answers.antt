use Rattle.muf_model.specs.inner.Worked.{rows}
use Rattle.muf_model.specs.inner.TableRows.{table_rows}
use Rattle.muf_model.proofs.rows.rows_hold.Goals as goal

pub returns : goal.returns
returns c = record { rows = rows; table = table_rows }
