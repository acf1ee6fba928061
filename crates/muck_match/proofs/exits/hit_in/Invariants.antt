use Rattle.std.proofs.Common.{◌≡◌, ◌+◌, length}
use Rattle.muck_match.specs.Exits.{first_item, hits_in}
use Rattle.muck_match.proofs.Aliases.{hits_from}
use Rattle.muck_match.proofs.exits.hit_in.Given as goal

abbrev pub invariant-loop-end : goal.invariant-loop-end
invariant-loop-end l = record {
  places : l.from + length l.more ≡ length l.name;
  hits : first_item (hits_from l.exit l.argument l.line l.from l.more) ≡ first_item (hits_in l.exit l.argument l.line l.name);
}

abbrev pub decreases-loop-end : goal.decreases-loop-end
decreases-loop-end l = length l.more
