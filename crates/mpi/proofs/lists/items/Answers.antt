use Rattle.std.proofs.Common.{◌∙◌, sym, ap, map, rules, tests, arith}
use Rattle.std.specs.Prelude.{◌==◌}
use Rattle.std.proofs.lemmas.Iterator.Consumers.{YieldsList-end}
use Rattle.std.proofs.lemmas.Iterator.Splits.{YieldsList-from_slice_split}
use Rattle.std.proofs.lemmas.Bool.Decides.{nat_tests}
use Rattle.mpi.proofs.Items.{items_some}
use Rattle.mpi.proofs.lists.items.Goals as goal

pub returns : goal.returns
returns c =
    let parts = YieldsList-end (YieldsList-from_slice_split _ (λ b. b == 13) c.args.list.now (cc) (cc) c.split-part-items.ensures.closure (λ x r q k. search (rules, tests))) c.loop-part.yielded _ c.loop-part.yielded_by _ _ c.in-None.is c.next.ensures.steps in
    ap (map (λ x. x.now)) c.loop-part.invariant ∙ parts.0 ∙ sym (items_some c.args.list.now (grind (arith, nat_tests)))
