use Rattle.std.proofs.Common.{◌≡◌, ◌≤◌, ◌++◌, map, length}
use Rattle.std.specs.Prelude.{None, true}
use Rattle.std.specs.List.{list_all}
use Rattle.muck_model.specs.Bytes.{text_fault}
use Rattle.mpi.specs.Made.{is_text}
use Rattle.mpi.specs.Brackets.{scan_begun, part_len, arguments}
use Rattle.mpi.proofs.brackets.arguments.Given as goal

-- the arguments so far and those of the rest are those of the text
abbrev pub invariant-loop-size : goal.invariant-loop-size
invariant-loop-size l =
    (arguments l.text ≡ map (λ x. x.now) l.list.items ++ arguments l.rest)
    × (l.size ≡ part_len 44 scan_begun l.rest) × (l.size ≤ length l.rest) × (text_fault l.rest ≡ None) × (list_all is_text (map (λ x. x.now) l.list.items) ≡ true)

abbrev pub decreases-loop-size : goal.decreases-loop-size
decreases-loop-size l = length l.rest
