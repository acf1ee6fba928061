use Rattle.std.proofs.Common.{◌≡◌, ◌+◌, drop}
use Rattle.mpi.specs.Brackets.{scan_begun, part_len}
use Rattle.mpi.proofs.brackets.plain_part_len.Given as goal

abbrev pub invariant-loop-at : goal.invariant-loop-at
invariant-loop-at l = part_len l.wanted scan_begun l.text ≡ l.at + part_len l.wanted scan_begun (drop l.at l.text)
