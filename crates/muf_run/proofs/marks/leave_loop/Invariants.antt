use Rattle.std.proofs.Common.{◌≡◌, length}
use Rattle.muf_frame.specs.inner.Shown.{flat}
use Rattle.muf_run.specs.inner.Machine as machine
use Rattle.muf_run.proofs.marks.leave_loop.Given as goal

abbrev pub invariant-loop-mark : goal.invariant-loop-mark
invariant-loop-mark l = machine.leave_loop (flat l.frame) (flat l.frame).marks ≡ machine.leave_loop (flat l.fn.frame) (flat l.fn.frame).marks

abbrev pub decreases-loop-mark : goal.decreases-loop-mark
decreases-loop-mark l = length l.frame.marks
