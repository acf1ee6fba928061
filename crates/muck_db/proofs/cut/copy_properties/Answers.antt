use Rattle.std.proofs.Common.{◌≡◌, ◌++◌, ◌∙◌, ap, rules, List, map}
use Rattle.std.proofs.lemmas.List.Elements.{All-nil, All-same}
use Rattle.std.specs.FinMap.{entries}
use Rattle.std.specs.Vec.Iter.{into_iter_items}
use Rattle.muck_prop.specs.Store.{path_behind}
use Rattle.muck_prop.specs.declared.props.Listed.{Listed}
use Rattle.muck_codec.specs.declared.stored.Property.{Property}
use Rattle.muck_db.specs.inner.Kept.{MayHold, property_at}
use Rattle.muck_db.proofs.Cutting.{all_stored}
use Rattle.muck_db.proofs.cut.copy_properties.Goals as goal

pub loop-listed-init : goal.loop-listed-init
loop-listed-init c = record {
  whole =
      let items : into_iter_items c.into_iter-listed-iterator.result ≡ map (path_behind 0) (entries c.args.props.now) = search rules in
      ap (λ (list : List Property). list ++ map property_at (into_iter_items c.into_iter-listed-iterator.result)) c.in_ok-list.ensures.items
      ∙ ap (λ (all : List Listed). map property_at all) items
      ∙ all_stored c.args.props.now;
  held = All-same MayHold _ _ c.in_ok-list.ensures.items (All-nil MayHold);
}
