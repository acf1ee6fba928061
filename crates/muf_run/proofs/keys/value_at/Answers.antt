use Rattle.std.proofs.Common.{rules, ◌≡◌, Some, None, sym, refl, ◌∙◌}
use Rattle.std.specs.Prelude.{slice_get}
use Rattle.std.specs.Arc.{arc_value}
use Rattle.muf_run.proofs.Turning.{no_value, a_value}
use Rattle.muf_run.proofs.keys.value_at.Goals as goal

pub returns-in-None : goal.returns-in-None
returns-in-None c =
    let e : slice_get c.as_slice.result.now c.args.at ≡ None = search (rules, c.value_in.ensures.value, c.in-None.is) in
    sym (no_value c.as_slice.result.now (arc_value c.args.of) c.args.at (c.as_slice.ensures.values ∙ c.deref.ensures) e)

pub returns : goal.returns
returns c =
    let e : slice_get c.as_slice.result.now c.args.at ≡ Some c.in-Some.value.now = search (rules, c.value_in.ensures.value, c.in-Some.is, c.in-Some.value-is) in
    sym (a_value c.as_slice.result.now (arc_value c.args.of) c.args.at c.in-Some.value.now (c.as_slice.ensures.values ∙ c.deref.ensures) e ∙ rw (c.number_value.ensures, c.in_ok-value-in-Some.ensures) refl)
