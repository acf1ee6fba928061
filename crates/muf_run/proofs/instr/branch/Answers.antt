use Rattle.muf_run.specs.inner.Machine as machine
use Rattle.muf_run.proofs.instr.branch.Goals as goal

pub returns-in-Err : goal.returns-in-Err
returns-in-Err c =
    rw (c.test.ensures (λ t. machine.going 0 t) (λ t. machine.going 0 (record t { place = c.args.to })), c.in-Err.is) c.fault.ensures
