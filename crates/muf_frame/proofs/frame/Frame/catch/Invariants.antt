use Rattle.std.proofs.Common.{◌≡◌, ◌≤◌, ◌+◌, true, length}
use Rattle.muf_frame.specs.inner.Shown.{flat, calls_by}
use Rattle.muf_frame.specs.inner.Moves.{has_guard, unwound}
use Rattle.muf_frame.proofs.frame.Frame.catch.Given as goal

abbrev pub invariant-loop-mark : goal.invariant-loop-mark
invariant-loop-mark l =
    (unwound l.text l.programs (flat l.self) (flat l.self).marks ≡ unwound l.fn.text 0 (flat l.fn.self) (flat l.fn.self).marks)
    × (has_guard (flat l.self).marks ≡ true)
    × (l.programs + calls_by (flat l.self).marks ≤ 511)

abbrev pub decreases-loop-mark : goal.decreases-loop-mark
decreases-loop-mark l = length l.self.marks
