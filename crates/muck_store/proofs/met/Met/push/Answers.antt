use Rattle.muck_store.proofs.Marking.{one_marked}
use Rattle.muck_store.proofs.met.Met.push.Goals as goal

pub invariant_of-self-2 : goal.invariant_of-self-2
invariant_of-self-2 c = record {
  marked = rw c.in_ok-push.ensures.items (one_marked c.args.self.now.marks.items c.args.self.now.numbers.items c.args.d c.requires.within c.args.self.now.marked c.requires.fresh);
}
