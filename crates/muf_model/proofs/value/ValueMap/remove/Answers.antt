use Rattle.std.proofs.Common.{rules, ◌≡◌, true, false, map, ap, sym, refl, ◌∙◌, arith}
use Rattle.std.specs.Prelude.{slice_get}
use Rattle.std.specs.List.{remove}
use Rattle.muf_model.specs.Datum.{data_of}
use Rattle.muf_model.specs.inner.View.{pair_view, value_view}
use Rattle.muf_model.specs.Measures.{data_weight, data_nesting}
use Rattle.muf_model.specs.Entries.{has_key, entry_place, without_key, Rising}
use Rattle.muf_model.proofs.Sized.{within, dict_weight, dict_nesting}
use Rattle.muf_model.proofs.Edited.{keys_rise, pair_less_fits, gone_there, gone_missing}
use Rattle.muf_model.proofs.value.ValueMap.remove.Goals as goal

pub entry_place-at-requires : goal.entry_place-at-requires
entry_place-at-requires c = keys_rise c.deref.result.now c.self.inside.pairs.items c.self.inside.size c.deref.ensures.value c.self.invariant

pub size_without-size-requires-clause-weight : goal.size_without-size-requires-clause-weight
size_without-size-requires-clause-weight c =
    omega (arith, c.self.invariant.weighs, dict_weight c.self.inside.pairs.items, ap (λ ps. data_weight (data_of (map value_view ps))) c.deref-then-has_key.ensures.value)

pub size_without-size-requires-clause-nesting : goal.size_without-size-requires-clause-nesting
size_without-size-requires-clause-nesting c =
    omega (arith, c.self.invariant.nests, dict_nesting c.self.inside.pairs.items, ap (λ ps. data_nesting (data_of (map value_view ps))) c.deref-then-has_key.ensures.value)

pub size_without-size-requires-clause-most : goal.size_without-size-requires-clause-most
size_without-size-requires-clause-most c = (within _ _ c.self.invariant).0

pub invariant_of-self : goal.invariant_of-self
invariant_of-self c =
    rw c.remove_pair.ensures (pair_less_fits c.entry_place-at.result c.self.inside.pairs.items c.self.inside.size c.size_without-size.result (search (rules, c.if-has_key.ensures.there, c.deref-2.ensures.value)) c.self.invariant (c.size_without-size.ensures.weight ∙ ap (λ ps. data_weight (data_of (remove (map value_view ps) c.entry_place-at.result))) c.deref-then-has_key.ensures.value) (c.size_without-size.ensures.nesting ∙ ap (λ ps. data_nesting (data_of (remove (map value_view ps) c.entry_place-at.result))) c.deref-then-has_key.ensures.value))

pub returns-then-has_key : goal.returns-then-has_key
returns-then-has_key c =
    let es = map pair_view c.self.inside.pairs.items in
    let p : c.entry_place-at.result ≡ entry_place c.args.key.now es = c.entry_place-at.ensures.place ∙ ap (λ ps. entry_place c.args.key.now (map pair_view ps)) c.deref.ensures.value in
    let t : has_key c.args.key.now (slice_get (map pair_view c.deref-2.result.now) c.entry_place-at.result) ≡ true = search (rules, c.has_key.ensures.value, c.if-has_key.true) in
    c.remove_pair.ensures ∙ gone_there c.args.key.now es c.entry_place-at.result p (ap (λ ps. has_key c.args.key.now (slice_get (map pair_view ps) c.entry_place-at.result)) (sym c.deref-2.ensures.value) ∙ t) ∙ ap (without_key c.args.key.now) c.self.view_is

pub returns-else-has_key : goal.returns-else-has_key
returns-else-has_key c =
    let es = map pair_view c.self.inside.pairs.items in
    let p : c.entry_place-at.result ≡ entry_place c.args.key.now es = c.entry_place-at.ensures.place ∙ ap (λ ps. entry_place c.args.key.now (map pair_view ps)) c.deref.ensures.value in
    let t : has_key c.args.key.now (slice_get (map pair_view c.deref-2.result.now) c.entry_place-at.result) ≡ false = search (rules, c.has_key.ensures.value, c.if-has_key.false) in
    let r : Rising es = keys_rise c.self.inside.pairs.items c.self.inside.pairs.items c.self.inside.size refl c.self.invariant in
    sym c.self.view_is ∙ gone_missing c.args.key.now es c.entry_place-at.result p r (ap (λ ps. has_key c.args.key.now (slice_get (map pair_view ps) c.entry_place-at.result)) (sym c.deref-2.ensures.value) ∙ t) ∙ ap (without_key c.args.key.now) c.self.view_is
