use Rattle.std.proofs.Common.{rules, ◌≡◌, Some, None, ◌∙◌}
use Rattle.std.specs.Prelude.{slice_get}
use Rattle.std.specs.Arc.{arc_value}
use Rattle.muf_array.proofs.Reading.{dict_value_at}
use Rattle.muf_array.proofs.entries.value_ref.Goals as goal

pub returns-in-Some : goal.returns-in-Some
returns-in-Some c =
    let g : slice_get c.as_slice.result.now c.args.at ≡ Some c.in-Some.pair.now = search (rules, c.pair_in.ensures.value, c.in-Some.is, c.in-Some.pair-is) in
    rw c.in-Dict.is (dict_value_at c.as_slice.result.now (arc_value c.in-Dict.dict) c.args.at (Some c.in-Some.pair.now) (c.as_slice.ensures.pairs ∙ c.deref-in-Dict.ensures) g)

pub returns-in-None : goal.returns-in-None
returns-in-None c =
    let g : slice_get c.as_slice.result.now c.args.at ≡ None = search (rules, c.pair_in.ensures.value, c.in-None.is) in
    rw c.in-Dict.is (dict_value_at c.as_slice.result.now (arc_value c.in-Dict.dict) c.args.at None (c.as_slice.ensures.pairs ∙ c.deref-in-Dict.ensures) g)
