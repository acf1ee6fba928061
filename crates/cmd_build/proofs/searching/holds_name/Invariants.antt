use Rattle.std.proofs.Common.{◌≡◌, map, length}
use Rattle.std.specs.Char.{to_ascii_lowercase}
use Rattle.spec_commands.specs.Building.{text_stands_in}
use Rattle.cmd_build.proofs.searching.holds_name.Given as goal

-- the rest decides for the whole
abbrev pub invariant-loop-others : goal.invariant-loop-others
invariant-loop-others l = text_stands_in (map to_ascii_lowercase l.part) (map to_ascii_lowercase l.rest) ≡ text_stands_in (map to_ascii_lowercase l.part) (map to_ascii_lowercase l.name)

abbrev pub decreases-loop-others : goal.decreases-loop-others
decreases-loop-others l = length l.rest
