use Rattle.std.proofs.Common.{◌≡◌, length}
use Rattle.muf_frame.specs.inner.Shown.{flat}
use Rattle.muf_run.specs.inner.Machine as machine
use Rattle.muf_run.proofs.marks.next_turn.Given as goal

abbrev pub invariant-loop-mark : goal.invariant-loop-mark
invariant-loop-mark l = machine.next_turn (flat l.frame) (flat l.frame).marks ≡ machine.next_turn (flat l.fn.frame) (flat l.fn.frame).marks

abbrev pub decreases-loop-mark : goal.decreases-loop-mark
decreases-loop-mark l = length l.frame.marks
