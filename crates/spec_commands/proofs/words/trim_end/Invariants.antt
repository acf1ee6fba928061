use Rattle.std.proofs.Common.{◌≡◌, length}
use Rattle.spec_commands.specs.Texts.{end_trimmed}
use Rattle.spec_commands.proofs.words.trim_end.Given as goal

abbrev pub invariant-loop-last : goal.invariant-loop-last
invariant-loop-last l = end_trimmed l.rest ≡ end_trimmed l.text

abbrev pub decreases-loop-last : goal.decreases-loop-last
decreases-loop-last l = length l.rest
