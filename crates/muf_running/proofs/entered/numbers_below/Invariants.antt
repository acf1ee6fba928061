use Rattle.std.proofs.Common.{◌≡◌, ◌≤◌, ◌++◌, length, map, take, drop, reverse}
use Rattle.muf_running.specs.inner.Fitting.{numbers_of}
use Rattle.muf_running.proofs.entered.numbers_below.Given as goal

abbrev pub invariant-loop-at : goal.invariant-loop-at
invariant-loop-at l =
    (l.at ≤ length l.fn.programs)
    × (map (λ d. d.0) l.row ++ numbers_of (reverse (take l.at l.fn.programs)) ≡ drop 1 (numbers_of (reverse l.fn.programs)))

abbrev pub decreases-loop-at : goal.decreases-loop-at
decreases-loop-at l = l.at
