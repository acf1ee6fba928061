use Rattle.std.proofs.Common.{rules, ◌≡◌, Some, None, sym, refl, ◌∙◌}
use Rattle.std.specs.Prelude.{slice_get}
use Rattle.std.specs.Arc.{arc_value}
use Rattle.muf_run.proofs.Turning.{no_entry, an_entry}
use Rattle.muf_run.proofs.keys.entry_at.Goals as goal

pub returns-in-None : goal.returns-in-None
returns-in-None c =
    let e : slice_get c.as_slice.result.now c.args.at ≡ None = search (rules, c.pair_in.ensures.value, c.in-None.is) in
    sym (no_entry c.as_slice.result.now (arc_value c.args.of) c.args.at (c.as_slice.ensures.pairs ∙ c.deref.ensures) e)

pub returns : goal.returns
returns c =
    let e : slice_get c.as_slice.result.now c.args.at ≡ Some c.in-Some.pair.now = search (rules, c.pair_in.ensures.value, c.in-Some.is, c.in-Some.pair-is) in
    sym (an_entry c.as_slice.result.now (arc_value c.args.of) c.args.at c.in-Some.pair.now (c.as_slice.ensures.pairs ∙ c.deref.ensures) e ∙ rw (c.in_ok-to_value-in-Some.ensures, c.in_ok-copy-in-Some.ensures) refl)
