use Rattle.std.proofs.Common.{rules, ◌≡◌, ◌∙◌, sym, arith, true, false, map}
use Rattle.std.specs.Prelude.{slice_get}
use Rattle.muf_model.specs.inner.View.{view, pair_view}
use Rattle.muf_model.specs.Entries.{has_key}
use Rattle.muf_model.proofs.Sized.{within, dict_weight, dict_nesting, weight_there, nesting_there, weight_new, nesting_new}
use Rattle.muf_model.proofs.dicts.size_put.Goals as goal

pub size_with-requires-clause-weight : goal.size_with-requires-clause-weight
size_with-requires-clause-weight c = omega (arith, c.requires.sized.weighs, dict_weight c.args.pairs.now)

pub size_with-requires-clause-nesting : goal.size_with-requires-clause-nesting
size_with-requires-clause-nesting c = omega (arith, c.requires.sized.nests, dict_nesting c.args.pairs.now)

pub size_with-requires-clause-most : goal.size_with-requires-clause-most
size_with-requires-clause-most c = (within _ _ c.requires.sized).0

pub returns-then-has_key-clause-weight : goal.returns-then-has_key-clause-weight
returns-then-has_key-clause-weight c =
    let t : has_key c.args.key.now (slice_get (map pair_view c.args.pairs.now) c.args.at) ≡ true = search (rules, c.has_key.ensures.value, c.if-has_key.true) in
    c.size_with.ensures.weight ∙ sym (weight_there c.args.key.now (view c.args.value.now) c.args.pairs.now c.args.at c.requires.place t)

pub returns-then-has_key-clause-nesting : goal.returns-then-has_key-clause-nesting
returns-then-has_key-clause-nesting c =
    let t : has_key c.args.key.now (slice_get (map pair_view c.args.pairs.now) c.args.at) ≡ true = search (rules, c.has_key.ensures.value, c.if-has_key.true) in
    c.size_with.ensures.nesting ∙ sym (nesting_there c.args.key.now (view c.args.value.now) c.args.pairs.now c.args.at c.requires.place t)

pub returns-else-has_key-clause-weight : goal.returns-else-has_key-clause-weight
returns-else-has_key-clause-weight c =
    let t : has_key c.args.key.now (slice_get (map pair_view c.args.pairs.now) c.args.at) ≡ false = search (rules, c.has_key.ensures.value, c.if-has_key.false) in
    omega (arith, c.with.ensures.weight, c.requires.sized.weighs, weight_new c.args.key.now (view c.args.value.now) c.args.pairs.now c.args.at c.requires.place t)

pub returns-else-has_key-clause-nesting : goal.returns-else-has_key-clause-nesting
returns-else-has_key-clause-nesting c =
    let t : has_key c.args.key.now (slice_get (map pair_view c.args.pairs.now) c.args.at) ≡ false = search (rules, c.has_key.ensures.value, c.if-has_key.false) in
    omega (arith, c.with.ensures.nesting, c.requires.sized.nests, nesting_new c.args.key.now (view c.args.value.now) c.args.pairs.now c.args.at c.requires.place t)
