use Rattle.std.proofs.Common.{ℕ, sym, ◌∙◌, ap, subst}
use Rattle.muck_script.specs.Script.{script_of}
use Rattle.muck_run.specs.Outcome.{IsFirstOutsideScript}
use Rattle.muck_run.proofs.Whole.{script_in, first_outside, read_out, read_part_most}
use Rattle.muck_run.proofs.Answered.{bad_line}
use Rattle.muck_run.proofs.running.read_script.Goals as goal

pub returns-in-Ok-read-clause-read : goal.returns-in-Ok-read-clause-read
returns-in-Ok-read-clause-read g c =
    let ok = ap script_of (sym c.as_slice.ensures.value) ∙ c.in-Ok-read.ensures in
    record {
      script = script_in _ _ _ _ _ read_part_most c.in-Ok.ensures.ok ok;
      read = read_out _ _ _ _ _ read_part_most c.in-Ok.ensures.ok ok;
      fine = c.in-Ok.ensures.fine;
    }

pub returns-in-Err-BadScript-clause-why : goal.returns-in-Err-BadScript-clause-why
returns-in-Err-BadScript-clause-why g c =
    let P : ℕ → Type 0 = IsFirstOutsideScript (g.S.Source.left c.args.script.now) in
    subst P (sym c.in-Err-BadScript.line-is)
    (first_outside _ _ _ _ _ read_part_most c.in-Ok.ensures.ok (ap script_of (sym c.as_slice.ensures.value) ∙ bad_line _ _ _ c.in-Err-BadScript.field-0-is c.in-Err-BadScript.ensures))
