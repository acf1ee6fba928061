use Rattle.spec_prims.specs.inner.PropWorked.{prop_worked}
use Rattle.spec_prims.specs.inner.Rows.{rows}
use Rattle.spec_prims.specs.inner.TalkRows.{talk_rows}
use Rattle.spec_prims.specs.inner.ObjectsWorked.{objects_worked}
use Rattle.spec_prims.specs.inner.WritesWorked.{writes_worked}
use Rattle.spec_prims.proofs.rows.rows_hold.Goals as goal

pub returns : goal.returns
returns c = record { tests = rows; talk = talk_rows; properties = prop_worked; objects = objects_worked; writes = writes_worked }
