use Rattle.muf_run.specs.inner.Machine as machine
use Rattle.muf_run.proofs.instr.while_word.Goals as goal

pub returns-in-Err : goal.returns-in-Err
returns-in-Err c =
    rw (c.test.ensures (λ t. machine.going 0 t) (λ t. machine.leave_loop t t.marks), c.in-Err.is) c.fault.ensures
