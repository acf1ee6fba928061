use Rattle.std.proofs.Common.{rules, ◌≡◌, Some, map, ◌∙◌}
use Rattle.std.specs.Prelude.{slice_get}
use Rattle.std.specs.Arc.{arc_value}
use Rattle.muck_laws.proofs.Results.{if_ok_mapped}
use Rattle.muf_model.specs.Entries.{key_datum}
use Rattle.muf_model.specs.inner.View.{view}
use Rattle.muf_model.specs.ArrayRows.{entries_in}
use Rattle.muf_array.proofs.Reading.{dict_key_at}
use Rattle.muf_array.proofs.entries.key_at.Goals as goal

pub returns-in-Some : goal.returns-in-Some
returns-in-Some c =
    let g : slice_get c.as_slice.result.now c.args.at ≡ Some c.in-Some.pair.now = search (rules, c.pair_in.ensures.value, c.in-Some.is, c.in-Some.pair-is) in
    if_ok_mapped _ (λ v. slice_get (map (λ e. key_datum e.0) (entries_in (view c.args.held.now))) c.args.at ≡ Some (view v)) c.to_value.result (λ v e. rw c.in-Dict.is (dict_key_at c.as_slice.result.now (arc_value c.in-Dict.dict) c.args.at c.in-Some.pair.now (view v) (c.as_slice.ensures.pairs ∙ c.deref.ensures) g e)) c.to_value.ensures
