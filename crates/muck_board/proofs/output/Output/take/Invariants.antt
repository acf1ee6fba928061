use Rattle.std.proofs.Common.{◌≡◌, ◌-◌, ◌≤◌, length, take}
use Rattle.spec_live.specs.Output.{bytes_of, output_taken}
use Rattle.muck_board.proofs.output.Output.take.Given as goal

abbrev pub invariant-loop-n : goal.invariant-loop-n
invariant-loop-n l = record {
  left : l.self ≡ output_taken l.n l.initial.self;
  there : l.n ≤ length (bytes_of l.initial.self);
  bytes : take l.n l.buf ≡ take l.n (bytes_of l.initial.self);
  within : l.n ≤ length l.buf;
  len : length l.buf ≡ length l.initial.buf;
}

abbrev pub decreases-loop-n : goal.decreases-loop-n
decreases-loop-n l = length l.initial.buf - l.n
