use Rattle.std.proofs.Common.{◌≡◌, ◌<◌, ◌≤◌, ◌+◌, ◌-◌, ◌/◌, true, false, length, map, get_or, arith, rules}
use Rattle.std.proofs.lemmas.List.{length-map}
use Rattle.muf_model.specs.inner.View.{pair_view}
use Rattle.muf_model.specs.Measures.{key_below}
use Rattle.muf_model.specs.Entries.{entry_place}
use Rattle.muf_model.proofs.Entries.{place_within}
use Rattle.muf_model.proofs.Edited.{lower_before, others_from}
use Rattle.muf_model.proofs.dicts.entry_place.Goals as goal

pub loop-low-init : goal.loop-low-init
loop-low-init c =
    let within : entry_place c.args.key.now (map pair_view c.args.pairs.now) ≤ length c.args.pairs.now = omega (arith, place_within c.args.key.now (map pair_view c.args.pairs.now), length-map c.args.pairs.now pair_view) in
    search (rules, within)

pub loop-low-preserved-then-is_below : goal.loop-low-preserved-then-is_below
loop-low-preserved-then-is_below c =
    let middle = c.loop-low.low + (c.loop-low.high - c.loop-low.low) / 2 in
    let there : middle < length c.args.pairs.now = omega arith in
    let lower : key_below (get_or c.args.pairs.now middle c.index-pairs-middle.result).key c.args.key.now ≡ true = search (rules, c.is_below.ensures, c.if-is_below.true, c.index-pairs-middle.is) in
    let before : middle < entry_place c.args.key.now (map pair_view c.args.pairs.now) = lower_before c.args.key.now c.args.pairs.now middle c.index-pairs-middle.result c.requires there lower in
    (omega arith, omega arith, omega arith)

pub loop-low-preserved : goal.loop-low-preserved
loop-low-preserved c =
    let middle = c.loop-low.low + (c.loop-low.high - c.loop-low.low) / 2 in
    let there : middle < length c.args.pairs.now = omega arith in
    let no_lower : key_below (get_or c.args.pairs.now middle c.index-pairs-middle.result).key c.args.key.now ≡ false = search (rules, c.is_below.ensures, c.if-is_below.false, c.index-pairs-middle.is) in
    let from : entry_place c.args.key.now (map pair_view c.args.pairs.now) ≤ middle = others_from c.args.key.now c.args.pairs.now middle c.index-pairs-middle.result there no_lower in
    (omega arith, omega arith, omega arith)
