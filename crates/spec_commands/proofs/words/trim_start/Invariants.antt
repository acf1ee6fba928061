use Rattle.std.proofs.Common.{◌≡◌, length}
use Rattle.spec_commands.specs.Texts.{start_trimmed}
use Rattle.spec_commands.proofs.words.trim_start.Given as goal

abbrev pub invariant-loop-first : goal.invariant-loop-first
invariant-loop-first l = start_trimmed l.rest ≡ start_trimmed l.text

abbrev pub decreases-loop-first : goal.decreases-loop-first
decreases-loop-first l = length l.rest
