use Rattle.std.proofs.Common.{◌≡◌, ◌≤◌, ◌-◌, vec_len}
use Rattle.muck_io.proofs.Taken.{IsPartRead}
use Rattle.muck_io.proofs.source.read_all.Given as goal

abbrev pub invariant-loop-buf : goal.invariant-loop-buf
invariant-loop-buf g l = IsPartRead (g.S.Source.left l.fn.source) (g.S.Source.left l.source) l.bytes.items × (vec_len l.bytes ≤ l.most) × (g.S.Source.faults l.source ≡ g.S.Source.faults l.fn.source)

abbrev pub decreases-loop-buf : goal.decreases-loop-buf
decreases-loop-buf g l = l.most - vec_len l.bytes
