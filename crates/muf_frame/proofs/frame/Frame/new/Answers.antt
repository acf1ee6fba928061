use Rattle.std.proofs.Common.{refl}
use Rattle.muf_frame.proofs.frame.Frame.new.Goals as goal

pub returns-clause-data : goal.returns-clause-data
returns-clause-data c =
    rw (c.in_ok-stack.ensures.items, c.in_ok-common.ensures, c.new.ensures.items, c.new-2.ensures.items, c.in_ok-marks.ensures.items) refl
