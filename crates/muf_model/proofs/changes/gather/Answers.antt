use Rattle.std.proofs.Common.{map, ap, sym, subst, ◌∙◌, ◌∷◌, []}
use Rattle.std.proofs.lemmas.List.{map-append}
use Rattle.muf_model.specs.inner.View.{view, pair_view}
use Rattle.muf_model.specs.Entries.{Rising}
use Rattle.muf_model.proofs.Entries.{rising}
use Rattle.muf_model.proofs.Edited.{onto, onto_none, onto_last}
use Rattle.muf_model.proofs.changes.gather.Goals as goal

pub loop-pair-init : goal.loop-pair-init
loop-pair-init c = rw c.new-made.ensures.items (onto_none (map pair_view c.args.pairs.items), tt)

pub loop-pair-preserved : goal.loop-pair-preserved
loop-pair-preserved c =
    let left = map pair_view c.pop.new.self.items in
    let made = map pair_view c.loop-pair.made.items in (
      ap (onto left) c.in_ok-put_entry.ensures.ok
          ∙ sym (onto_last left c.in-Some.pair.key (view c.in-Some.pair.value) made)
          ∙ ap (λ es. onto es made) (sym (map-append pair_view c.pop.new.self.items (c.in-Some.pair ∷ [])) ∙ ap (map pair_view) (sym c.in-Some.ensures.items))
          ∙ c.loop-pair.invariant.0,
      subst Rising (sym c.in_ok-put_entry.ensures.ok) (rising c.in-Some.pair.key (view c.in-Some.pair.value) made c.loop-pair.invariant.1),
    )
