use Rattle.std.proofs.Common.{rules, ◌≡◌, true, false, map, sym}
use Rattle.std.specs.Prelude.{slice_get}
use Rattle.muf_model.specs.inner.View.{pair_view}
use Rattle.muf_model.specs.Entries.{has_key}
use Rattle.muf_model.proofs.Edited.{value_at, none_at}
use Rattle.muf_model.proofs.dicts.value_of.Goals as goal

pub returns-then-has_key : goal.returns-then-has_key
returns-then-has_key c =
    let t : has_key c.args.key.now (slice_get (map pair_view c.args.pairs.now) c.entry_place-at.result) ≡ true = search (rules, c.has_key.ensures.value, c.if-has_key.true) in
    sym (value_at c.args.key.now c.args.pairs.now c.entry_place-at.result c.index-pairs-at.result c.entry_place-at.ensures.place t)

pub returns-else-has_key : goal.returns-else-has_key
returns-else-has_key c =
    let t : has_key c.args.key.now (slice_get (map pair_view c.args.pairs.now) c.entry_place-at.result) ≡ false = search (rules, c.has_key.ensures.value, c.if-has_key.false) in
    sym (none_at c.args.key.now (map pair_view c.args.pairs.now) c.entry_place-at.result c.entry_place-at.ensures.place c.requires t)
