use Rattle.std.proofs.Common.{◌≡◌, ◌≤◌, ◌+◌, length}
use Rattle.muck_debugging.specs.Grammar.{debug_acts_from, debug_acts_of}
use Rattle.muck_script.specs.Lines.{lines_of}
use Rattle.muck_debugging.proofs.Cuts.{with_all}
use Rattle.muck_debugging.proofs.script.read_acts.Given as goal

abbrev pub invariant-loop-rest : goal.invariant-loop-rest
invariant-loop-rest l = record {
  acts : with_all l.acts.items (debug_acts_from l.number (lines_of l.rest)) ≡ debug_acts_of l.bytes;
  number : l.number + length l.rest ≤ length l.bytes + 1;
}

abbrev pub decreases-loop-rest : goal.decreases-loop-rest
decreases-loop-rest l = length l.rest
