-- A frame on the heap that is lent.
use Rattle.std.specs.Borrow.{Lends, MutBor, Fml}
use Rattle.muf_frame.specs.inner.Shown.{Shown}
use Rattle.muf_frame.specs.contracts.frame.Frame as frame
use Rattle.muf_running.specs.contracts.frame_box.FrameBox.{the_row}

-- what is left behind the reference is the frame that is on the heap from then on
abbrev pub LendsFrame : MutBor Shown → MutBor Shown → Fml
LendsFrame s r = Lends the_row frame.the_row s r (λ w. w)
