use Rattle.std.proofs.Common.{◌≡◌, take}
use Rattle.muck_prop.specs.Paths.{path_text}
use Rattle.muck_prop.proofs.segments.Segments.text.Given as goal

abbrev pub invariant-loop-i : goal.invariant-loop-i
invariant-loop-i l = l.text.items ≡ path_text (take l.i l.kept)
