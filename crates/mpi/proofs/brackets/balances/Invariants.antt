use Rattle.std.proofs.Common.{◌≡◌, ◌≤◌, drop}
use Rattle.mpi.specs.Brackets.{scan_begun, balances}
use Rattle.mpi.proofs.brackets.balances.Given as goal

abbrev pub invariant-loop-byte : goal.invariant-loop-byte
invariant-loop-byte l = (balances scan_begun l.text ≡ balances l.scan (drop l.byte-index l.text)) × (l.scan.deep ≤ l.byte-index)
