use Rattle.std.proofs.Common.{◌≡◌, ◌≤◌, ◌++◌, None, length}
use Rattle.muck_model.specs.Bytes.{text_fault, text_most}
use Rattle.mpi.specs.Made.{Inside}
use Rattle.mpi.specs.Values.{replaced}
use Rattle.mpi.proofs.lists.substituted.Given as goal

-- what was made so far, and what becomes of the rest, are the whole
abbrev pub invariant-loop-at : goal.invariant-loop-at
invariant-loop-at l =
    (replaced l.old l.new 0 l.text ≡ l.out.items ++ replaced l.old l.new 0 l.rest)
    × (text_fault l.rest ≡ None) × (length l.out.items ≤ text_most) × Inside l.out.items

abbrev pub decreases-loop-at : goal.decreases-loop-at
decreases-loop-at l = length l.rest
