use Rattle.std.proofs.Common.{rules, ◌≡◌, ℕ, IfOk, length, ap, sym, ◌∙◌, subst, Ok, Err}
use Rattle.std.specs.Option.{option_map}
use Rattle.muf_model.specs.Ladder.{short, wanted}
use Rattle.muf_model.specs.Needs.{shown_many, shown_needs}
use Rattle.muf_frame.specs.inner.Shown.{flat, locked_by}
use Rattle.prim_common.specs.inner.Tests.{Passes, uncounted}
use Rattle.prim_common.proofs.Counts.{short_by}
use Rattle.prim_common.proofs.Faults.{fails, passes}
use Rattle.prim_common.proofs.parts.test_count.Goals as goal

pub returns-in_err-test_uncounted-clause-pass : goal.returns-in_err-test_uncounted-clause-pass
returns-in_err-test_uncounted-clause-pass c =
    let fixed = c.args.needs.fixed.now in
    let many = option_map shown_many c.args.needs.many in
    let locked = locked_by (flat c.args.frame.now).marks in
    let stack = (flat c.args.frame.now).stack in
    let fault = c.in_err-test_uncounted.field-0.0 in
    let back : c.from_residual.result ≡ Err fault = search rules in
    let was : c.test_uncounted.result ≡ Err fault = search rules in
    rw back (subst (λ o. Passes {X = ℕ} o (Err fault)) (short_by fixed many locked stack)
    (fails (Unit {0}) ℕ (uncounted fixed many locked stack) (short (length (wanted (shown_needs c.args.needs) stack)) locked stack) fault (subst (λ r. Passes (uncounted fixed many locked stack) r) was c.test_uncounted.ensures)))

pub returns-clause-count : goal.returns-clause-count
returns-clause-count c = subst (λ ns. IfOk c.test_all.result (λ n. n ≡ length ns)) c.requires.needs c.test_all.ensures.count

pub returns-clause-pass : goal.returns-clause-pass
returns-clause-pass c =
    let fixed = c.args.needs.fixed.now in
    let many = option_map shown_many c.args.needs.many in
    let locked = locked_by (flat c.args.frame.now).marks in
    let stack = (flat c.args.frame.now).stack in
    let was : c.test_uncounted.result ≡ Ok tt = search rules in
    let pass = subst (λ r. Passes (uncounted fixed many locked stack) r) was c.test_uncounted.ensures in
    subst (λ o. Passes o c.test_all.result)
    (ap (λ ns. short (length ns) locked stack) c.requires.needs
    ∙ sym (passes (uncounted fixed many locked stack) (short (length (wanted (shown_needs c.args.needs) stack)) locked stack) pass)
    ∙ short_by fixed many locked stack)
    c.test_all.ensures.pass
