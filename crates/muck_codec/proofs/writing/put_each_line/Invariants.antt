use Rattle.std.proofs.Common.{◌≡◌, ◌++◌, take}
use Rattle.std.specs.List.{flat_map}
use Rattle.muck_codec.specs.Spelling.{text_bytes}
use Rattle.muck_codec.proofs.writing.put_each_line.Given as goal

abbrev pub invariant-loop-line : goal.invariant-loop-line
invariant-loop-line l = l.out.items ≡ l.initial.out.items ++ flat_map text_bytes (take l.line-index l.lines)
