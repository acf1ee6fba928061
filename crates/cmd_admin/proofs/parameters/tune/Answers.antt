use Rattle.std.proofs.Common.{rules, ◌≡◌, true, false, Some, Ok, ◌∙◌, subst}
use Rattle.spec_commands.specs.declared.shape.Form.TheVariants.{Full}
use Rattle.spec_commands.specs.Reading.{is_empty}
use Rattle.cmd_common.specs.inner.Takes.{IsCut}
use Rattle.cmd_admin.proofs.Tuned.{shows_all, sets_one}
use Rattle.cmd_admin.proofs.parameters.tune.Goals as goal

pub returns-then-is_empty : goal.returns-then-is_empty
returns-then-is_empty c =
    let empty : is_empty c.args.text.now ≡ true = search rules in
    shows_all c.args.d c.args.guard.now.actor c.args.text.now c.args.guard.now c.show_all.new.guard c.show_all.result empty c.show_all.ensures

pub returns-in-Some : goal.returns-in-Some
returns-in-Some c =
    let some : is_empty c.args.text.now ≡ false = search rules in
    let cut : c.parts_in.result ≡ Ok (Some c.in-Some.parts) = search rules in
    let whole : IsCut Full c.args.text.now (Ok (Some c.in-Some.parts)) = subst (λ q. IsCut Full c.args.text.now q) cut c.parts_in.ensures in
    sets_one c.args.d c.args.guard.now.actor c.args.text.now c.as_slice-in-Some.result.now c.as_slice-in-Some-2.result.now c.args.guard.now c.set.new.guard c.set.result some whole.0
    (c.as_slice-in-Some.ensures.bytes ∙ whole.1) (c.as_slice-in-Some-2.ensures.bytes ∙ whole.2) c.set.ensures
