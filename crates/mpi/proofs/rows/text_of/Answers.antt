use Rattle.std.proofs.Common.{rules, arith, refl, sym, ap, ◌∙◌, ◌≡◌, [], Some, Ok}
use Rattle.mpi.specs.Made.{found_text}
use Rattle.mpi.specs.Values.{function_text}
use Rattle.mpi.proofs.Replacing.{whole_made}
use Rattle.mpi.proofs.rows.text_of.Goals as goal

pub returns-in_ok-of_text-in_default : goal.returns-in_ok-of_text-in_default
returns-in_ok-of_text-in_default c =
    let is : function_text c.args.function c.args.values.now ≡ Some [] = search rules in
    ap found_text is ∙ whole_made [] [] refl (omega arith) ∙ ap Ok (sym c.in_ok-of_text-in_default.ensures)
