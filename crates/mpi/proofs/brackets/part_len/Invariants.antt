use Rattle.std.proofs.Common.{◌≡◌, ◌≤◌, ◌+◌, drop}
use Rattle.mpi.specs.Brackets.{scan_begun, part_len}
use Rattle.mpi.proofs.brackets.part_len.Given as goal

abbrev pub invariant-loop-at : goal.invariant-loop-at
invariant-loop-at l = (part_len l.wanted scan_begun l.text ≡ l.at + part_len l.wanted l.scan (drop l.at l.text)) × (l.scan.deep ≤ l.at)
