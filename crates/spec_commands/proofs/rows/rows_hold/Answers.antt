use Rattle.spec_commands.specs.inner.EditRows.{rows as edit_rows}
use Rattle.spec_commands.specs.inner.GoingRows.{going_rows}
use Rattle.spec_commands.specs.inner.ProgramRows.{rows as program_rows}
use Rattle.spec_commands.specs.inner.TalkRows.{talk_rows}
use Rattle.spec_commands.specs.inner.WalkRows.{walk_rows}
use Rattle.spec_commands.proofs.rows.rows_hold.Goals as goal

pub returns : goal.returns
returns c = record { edit_rows = edit_rows; program_rows = program_rows; talk_rows = talk_rows; going_rows = going_rows; walk_rows = walk_rows }
