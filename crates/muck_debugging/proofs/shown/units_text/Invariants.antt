use Rattle.std.proofs.Common.{◌≡◌, true, ◌++◌, drop}
use Rattle.std.specs.List.{flat_map}
use Rattle.muck_debugging.specs.Seen.{line_ended}
use Rattle.muck_debugging.specs.Laws.{are_texts}
use Rattle.muck_debugging.proofs.shown.units_text.Given as goal

abbrev pub invariant-loop-line : goal.invariant-loop-line
invariant-loop-line l = record {
  text : l.text.items ++ flat_map line_ended (drop l.line-index l.lines) ≡ flat_map line_ended l.lines;
  texts : are_texts (drop l.line-index l.lines) ≡ true → are_texts l.lines ≡ true;
}
