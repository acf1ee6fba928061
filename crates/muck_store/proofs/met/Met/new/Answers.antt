use Rattle.muck_store.proofs.Marking.{none_marked}
use Rattle.muck_store.proofs.met.Met.new.Goals as goal

pub invariant_of-result : goal.invariant_of-result
invariant_of-result c = record { marked = rw (c.in_ok-vec.ensures.items_if_clones_equal (λ y e. e), c.new.ensures.items) (none_marked c.args.count) }
