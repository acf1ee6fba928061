use Rattle.std.proofs.Common.{rules, ◌≡◌, [], ◌∷◌, ◌++◌, length, map, reverse, ap, ◌∙◌}
use Rattle.muf_model.specs.inner.View.{view}
use Rattle.spec_prims.specs.Talk.{count_item}
use Rattle.prim_talk.proofs.Giving.{shown_count}
use Rattle.prim_talk.proofs.items.with_count.Goals as goal

pub returns : goal.returns
returns c =
    let pushed : c.push.new.self.items ≡ c.args.items.items ++ c.counted-count.result ∷ [] = search rules in
    let turned : c.reverse.new.self.items ≡ reverse c.push.new.self.items = search rules in
    let count : view c.counted-count.result ≡ count_item (length c.args.items.items) = search rules in
    ap (map view) (turned ∙ ap reverse pushed) ∙ shown_count c.args.items.items c.counted-count.result count
