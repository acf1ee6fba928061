use Rattle.std.proofs.Common.{rules, ◌≡◌, ap, ◌∙◌, true, false, map, refl, arith}
use Rattle.std.proofs.lemmas.List.{length-map}
use Rattle.std.specs.Prelude.{slice_get}
use Rattle.muf_model.specs.inner.View.{pair_view}
use Rattle.muf_model.specs.Entries.{has_key}
use Rattle.muf_model.proofs.Entries.{put_there, put_new, place_within}
use Rattle.muf_model.proofs.dicts.put_entry.Goals as goal

pub returns-then-has_key-clause-ok : goal.returns-then-has_key-clause-ok
returns-then-has_key-clause-ok c =
    let t : has_key c.args.key (slice_get (map pair_view c.args.pairs.now.items) c.args.at) ≡ true = search (rules, c.has_key.ensures.value, c.if-has_key.true, c.deref.ensures.value) in
    put_there c.args.pairs.now.items c.args.at c.args.key c.args.value (record { key = c.args.key; value = c.args.value }) refl c.requires t

pub insert-requires : goal.insert-requires
insert-requires c =
    omega (arith, c.requires, place_within c.args.key (map pair_view c.args.pairs.now.items), length-map c.args.pairs.now.items pair_view)

pub returns-clause-ok : goal.returns-clause-ok
returns-clause-ok c =
    let t : has_key c.args.key (slice_get (map pair_view c.args.pairs.now.items) c.args.at) ≡ false = search (rules, c.has_key.ensures.value, c.if-has_key.false, c.deref.ensures.value) in
    ap (map pair_view) c.in_ok-insert.ensures.items ∙ put_new c.args.pairs.now.items c.args.at c.args.key c.args.value (record { key = c.args.key; value = c.args.value }) refl c.requires t
