use Rattle.std.proofs.Common.{◌≡◌, ◌++◌, drop}
use Rattle.spec_commands.specs.Building.{owned_named}
use Rattle.cmd_build.proofs.searching.owned_named.Given as goal

-- what was found, and what the rest holds
abbrev pub invariant-loop-n : goal.invariant-loop-n
invariant-loop-n l = l.xs.items ++ owned_named l.user l.part l.n (drop l.n l.db) ≡ owned_named l.user l.part 0 l.db
