use Rattle.std.proofs.Common.{rules, ◌≡◌, true, false, map}
use Rattle.std.specs.Prelude.{slice_get}
use Rattle.muf_model.specs.inner.View.{pair_view}
use Rattle.muf_model.specs.Entries.{has_key}
use Rattle.muf_model.proofs.Edited.{above_behind, above_at}
use Rattle.muf_model.proofs.changes.place_above.Goals as goal

pub returns-then-has_key-clause-value : goal.returns-then-has_key-clause-value
returns-then-has_key-clause-value c =
    let t : has_key c.args.key.now (slice_get (map pair_view c.args.pairs.now) c.entry_place-at.result) ≡ true = search (rules, c.has_key.ensures.value, c.if-has_key.true) in
    above_behind c.args.key.now (map pair_view c.args.pairs.now) c.entry_place-at.result c.entry_place-at.ensures.place c.requires t

pub returns-else-has_key-clause-value : goal.returns-else-has_key-clause-value
returns-else-has_key-clause-value c =
    let t : has_key c.args.key.now (slice_get (map pair_view c.args.pairs.now) c.entry_place-at.result) ≡ false = search (rules, c.has_key.ensures.value, c.if-has_key.false) in
    above_at c.args.key.now (map pair_view c.args.pairs.now) c.entry_place-at.result c.entry_place-at.ensures.place t
