use Rattle.std.proofs.Common.{◌≡◌, ◌++◌, length}
use Rattle.std.specs.List.{filter}
use Rattle.spec_live.specs.Flags.{has_flag, flag_of}
use Rattle.muck_mpi.proofs.objects.add_letters.Given as goal

-- what was added, with those that are left
abbrev pub invariant-loop-letter : goal.invariant-loop-letter
invariant-loop-letter l = l.text.items ++ filter (λ letter. has_flag (flag_of letter) l.flags) l.rest ≡ l.fn.text.items ++ filter (λ letter. has_flag (flag_of letter) l.flags) l.fn.letters

abbrev pub decreases-loop-letter : goal.decreases-loop-letter
decreases-loop-letter l = length l.rest
