use Rattle.std.proofs.Common.{rules, ap, ◌∙◌, map}
use Rattle.muf_model.specs.Datum.{pairs_of}
use Rattle.muf_model.specs.inner.View.{view, pair_view}
use Rattle.muf_model.specs.Measures.{pairs_weight, pairs_nesting}
use Rattle.muf_model.specs.Entries.{value_of_key, with_entry}
use Rattle.muf_model.proofs.Entries.{found, others}
use Rattle.muf_model.proofs.Sized.{entry_fits}
use Rattle.muf_model.proofs.Edited.{keys_rise}
use Rattle.muf_model.proofs.value.ValueMap.put.Goals as goal

pub entry_place-at-requires : goal.entry_place-at-requires
entry_place-at-requires c = keys_rise c.deref.result.now c.self.inside.pairs.items c.self.inside.size c.deref.ensures.value c.self.invariant

pub invariant_of-self-2 : goal.invariant_of-self-2
invariant_of-self-2 c =
    rw c.in_ok-put_entry.ensures.ok (entry_fits c.args.key (view c.args.value) (map pair_view c.self.inside.pairs.items) c.self.inside.size c.size_put-size.result c.self.invariant c.size_put-size.ensures.value (c.size_put-size.ensures.weight ∙ ap (λ ps. pairs_weight (pairs_of (with_entry c.args.key (view c.args.value) (map pair_view ps)))) c.deref-2.ensures.value) (c.size_put-size.ensures.nesting ∙ ap (λ ps. pairs_nesting (pairs_of (with_entry c.args.key (view c.args.value) (map pair_view ps)))) c.deref-2.ensures.value) (search (rules, c.fits.ensures, c.if-not-fits.false)))

pub returns-clause-found : goal.returns-clause-found
returns-clause-found c =
    ap (value_of_key c.args.key) c.in_ok-put_entry.ensures.ok ∙ found c.args.key (view c.args.value) (map pair_view c.self.inside.pairs.items)

pub returns-clause-others : goal.returns-clause-others
returns-clause-others c =
    λ k h. ap (value_of_key k) c.in_ok-put_entry.ensures.ok ∙ others k c.args.key (view c.args.value) (map pair_view c.self.inside.pairs.items) h ∙ ap (value_of_key k) c.self.view_is
