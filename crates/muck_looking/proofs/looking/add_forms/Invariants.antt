use Rattle.std.proofs.Common.{◌≡◌, ◌++◌, map, take}
use Rattle.muck_looking.specs.Looks.{form_line}
use Rattle.muck_looking.proofs.looking.add_forms.Given as goal

abbrev pub invariant-loop-x : goal.invariant-loop-x
invariant-loop-x l = l.lines.items ≡ l.fn.lines.items ++ map (form_line l.db) (take l.x-index l.xs)
