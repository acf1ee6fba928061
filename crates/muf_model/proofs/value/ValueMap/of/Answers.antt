use Rattle.std.proofs.Common.{◌≡◌, true, List, map, subst, ap, sym, ◌∙◌}
use Rattle.muf_model.specs.declared.value.Pair.{Pair}
use Rattle.muf_model.specs.Datum.{items, dict, data_of, pairs_of}
use Rattle.muf_model.specs.inner.View.{pair_view, value_view}
use Rattle.muf_model.specs.Values.{value_fits, IsSized}
use Rattle.muf_model.proofs.Edited.{gathered_fits, gathered_unfit}
use Rattle.muf_model.proofs.value.ValueMap.of.Goals as goal

pub invariant_of-result : goal.invariant_of-result
invariant_of-result c =
    gathered_fits c.in_ok-pairs.pairs.items (map pair_view c.args.pairs.items) c.in-Some.size c.in_ok-pairs.ensures (subst (λ ps. IsSized (items (data_of (map value_view ps))) c.in-Some.size) c.deref.ensures.value c.in-Some.ensures)

pub returns-in-Some : goal.returns-in-Some
returns-in-Some c =
    let z = gathered_fits c.in_ok-pairs.pairs.items (map pair_view c.args.pairs.items) c.in-Some.size c.in_ok-pairs.ensures (subst (λ ps. IsSized (items (data_of (map value_view ps))) c.in-Some.size) c.deref.ensures.value c.in-Some.ensures) in
    (subst (λ es. value_fits (dict (pairs_of es)) ≡ true) c.in_ok-pairs.ensures z.is_value.fitting, c.in_ok-pairs.ensures)

pub returns-in-None : goal.returns-in-None
returns-in-None c =
    ap (λ es. value_fits (dict (pairs_of es))) (sym c.in_ok-pairs.ensures) ∙ gathered_unfit c.in_ok-pairs.pairs.items (ap (λ (ps : List Pair). value_fits (items (data_of (map value_view ps)))) (sym c.deref.ensures.value) ∙ c.in-None.ensures)
