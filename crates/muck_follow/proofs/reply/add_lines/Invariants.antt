use Rattle.std.proofs.Common.{◌≡◌, ◌++◌, take}
use Rattle.std.specs.List.{flat_map}
use Rattle.muck_follow.specs.Following.{line}
use Rattle.muck_follow.proofs.reply.add_lines.Given as goal

abbrev pub invariant-loop-shown : goal.invariant-loop-shown
invariant-loop-shown l = l.text.items ≡ l.initial.text.items ++ flat_map line (take l.shown-index l.lines)
