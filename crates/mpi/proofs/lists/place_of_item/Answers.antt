use Rattle.std.proofs.Common.{arith, sym, ap, ◌∙◌, ◌≡◌, [], false, get_or, map, below_more}
use Rattle.std.proofs.lemmas.List.{length-map, get_or-map}
use Rattle.std.specs.Prelude.{bytes_eq}
use Rattle.mpi.proofs.Items.{item_found, item_lacks}
use Rattle.mpi.proofs.lists.place_of_item.Goals as goal

pub returns-then-eq : goal.returns-then-eq
returns-then-eq c = sym (item_found c.args.item.now (map (λ x. x.now) c.args.parts.now) c.loop-at.at (omega (arith, length-map c.args.parts.now (λ x. x.now))) c.loop-at.invariant (ap (λ x. bytes_eq x c.args.item.now) (get_or-map (λ x. x.now) c.args.parts.now c.loop-at.at (record { ref_ptr = (0, 0); now = [] }) [] (omega arith)) ∙ sym c.eq.ensures ∙ c.if-eq.true))

pub loop-at-preserved : goal.loop-at-preserved
loop-at-preserved c = below_more (λ k. bytes_eq (get_or (map (λ x. x.now) c.args.parts.now) k []) c.args.item.now ≡ false) c.loop-at.at c.loop-at.invariant (ap (λ x. bytes_eq x c.args.item.now) (get_or-map (λ x. x.now) c.args.parts.now c.loop-at.at (record { ref_ptr = (0, 0); now = [] }) [] (omega arith)) ∙ sym c.eq.ensures ∙ c.if-eq.false)

pub returns : goal.returns
returns c = sym (item_lacks c.args.item.now (map (λ x. x.now) c.args.parts.now) (λ k less. c.loop-at.invariant k (omega (arith, less, length-map c.args.parts.now (λ x. x.now)))))
