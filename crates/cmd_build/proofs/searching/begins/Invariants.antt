use Rattle.std.proofs.Common.{◌≡◌, map, length}
use Rattle.std.specs.Char.{to_ascii_lowercase}
use Rattle.spec_commands.specs.Building.{text_begins}
use Rattle.cmd_build.proofs.searching.begins.Given as goal

-- the rest decides for the whole
abbrev pub invariant-loop-b : goal.invariant-loop-b
invariant-loop-b l = text_begins (map to_ascii_lowercase l.wanted) (map to_ascii_lowercase l.rest) ≡ text_begins (map to_ascii_lowercase l.part) (map to_ascii_lowercase l.text)

abbrev pub decreases-loop-b : goal.decreases-loop-b
decreases-loop-b l = length l.wanted
