use Rattle.std.proofs.Common.{◌≡◌, None, sym, subst}
use Rattle.muck_prop.specs.Paths.{fault_of_path}
use Rattle.muck_prop.proofs.Reading.{read_is_path}
use Rattle.muck_prop.proofs.path.Path.of_text.Goals as goal

pub invariant_of-result : goal.invariant_of-result
invariant_of-result c =
    let same = c.in_ok-segments.ensures in
    read_is_path c.args.text.now c.in_ok-segments.segments same c.requires.text (subst (λ s. fault_of_path c.args.text.now s ≡ None) (sym same) c.requires.fine)
