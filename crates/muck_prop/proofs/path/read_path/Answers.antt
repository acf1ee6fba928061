use Rattle.std.proofs.Common.{sym, ◌∙◌}
use Rattle.muck_prop.proofs.Reading.{read_is_path}
use Rattle.muck_prop.proofs.path.read_path.Goals as goal

pub invariant_of-result : goal.invariant_of-result
invariant_of-result c =
    read_is_path c.as_slice-text.result.now c.in_ok-segments.segments c.in_ok-segments.ensures c.as_slice-text.ensures.text (sym c.in_ok-fault.ensures ∙ c.in-None.is)
