use Rattle.std.proofs.Common.{rules, subst, ap, ◌∙◌, ◌≡◌, map}
use Rattle.std.specs.Result.{IfOk}
use Rattle.mpi.specs.Values.{values_listed, part_between}
use Rattle.mpi.proofs.Mapped.{cut_mapped}
use Rattle.mpi.proofs.rows.sublist.Goals as goal

pub returns : goal.returns
returns c =
    let cut_is : c.cut.result.now ≡ part_between c.args.p c.args.q c.deref.result.now = search rules in
    let whole = ap (map (λ x. x.now)) (cut_is ∙ ap (λ xs. part_between c.args.p c.args.q xs) c.deref.ensures.value) ∙ cut_mapped (λ x. x.now) c.args.p c.args.q c.in_ok-parts.parts.items ∙ ap (λ xs. part_between c.args.p c.args.q xs) c.in_ok-parts.ensures in
    subst (λ xs. IfOk c.listed.result (λ bytes. bytes.items ≡ values_listed xs)) whole c.listed.ensures
