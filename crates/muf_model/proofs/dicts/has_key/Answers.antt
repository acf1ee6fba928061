use Rattle.std.proofs.Common.{rules, ◌≡◌, ap, sym, ◌∙◌, Some, None, option_map}
use Rattle.std.specs.Prelude.{slice_get}
use Rattle.std.proofs.lemmas.Option.{slice_get-map}
use Rattle.muf_model.specs.inner.View.{pair_view}
use Rattle.muf_model.specs.Entries.{has_key}
use Rattle.muf_model.proofs.dicts.has_key.Goals as goal

pub returns-in-Some-clause-value : goal.returns-in-Some-clause-value
returns-in-Some-clause-value c =
    let e : slice_get c.args.pairs.now c.args.at ≡ Some c.in-Some.pair.now = search (rules, c.pair_at.ensures.value, c.in-Some.is, c.in-Some.pair-is) in
    c.is_same.ensures
    ∙ sym (ap (has_key c.args.key.now) (slice_get-map pair_view c.args.pairs.now c.args.at ∙ ap (option_map pair_view) e))

pub returns-in-None-clause-value : goal.returns-in-None-clause-value
returns-in-None-clause-value c =
    let e : slice_get c.args.pairs.now c.args.at ≡ None = search (rules, c.pair_at.ensures.value, c.in-None.is) in
    sym (ap (has_key c.args.key.now) (slice_get-map pair_view c.args.pairs.now c.args.at ∙ ap (option_map pair_view) e))
