use Rattle.std.proofs.Common.{◌≡◌, ◌≤◌, ◌+◌, length}
use Rattle.muck_follow.specs.Script.{mirror_acts_from, mirror_acts_of}
use Rattle.muck_follow.specs.Lines.{lines_of}
use Rattle.muck_follow.proofs.Cuts.{with_all}
use Rattle.muck_follow.proofs.script.read_acts.Given as goal

abbrev pub invariant-loop-rest : goal.invariant-loop-rest
invariant-loop-rest l = record {
  acts : with_all l.acts.items (mirror_acts_from l.number (lines_of l.rest)) ≡ mirror_acts_of l.bytes;
  number : l.number + length l.rest ≤ length l.bytes + 1;
}

abbrev pub decreases-loop-rest : goal.decreases-loop-rest
decreases-loop-rest l = length l.rest
