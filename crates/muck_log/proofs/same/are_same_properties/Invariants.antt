use Rattle.std.proofs.Common.{◌≡◌, length, take}
use Rattle.muck_log.proofs.same.are_same_properties.Given as goal

abbrev pub invariant-loop-one : goal.invariant-loop-one
invariant-loop-one l = take (length l.yielded) l.a ≡ take (length l.yielded) l.b
