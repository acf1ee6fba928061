use Rattle.std.proofs.Common.{sym, ◌∙◌, ap, Err, length}
use Rattle.muck_debugging.proofs.Cuts.{long_last}
use Rattle.muck_debugging.proofs.script.long_fault.Goals as goal

pub returns-in-Ok : goal.returns-in-Ok
returns-in-Ok c =
    long_last c.args.bytes.now c.read_part.result.now _ c.requires c.read_part.ensures c.in-Ok.ensures
    ∙ ap (λ acts. Err (length acts)) (sym c.as_slice.ensures)
