use Rattle.std.proofs.Common.{◌≡◌, ◌+◌, vec_len}
use Rattle.bench.proofs.compile.write_source.Given as goal

abbrev pub invariant-loop-line : goal.invariant-loop-line
invariant-loop-line l = vec_len l.source ≡ vec_len l.fn.source + 1 + l._line
