use Rattle.std.proofs.Common.{◌≡◌, drop}
use Rattle.std.specs.Prelude.{find, map}
use Rattle.std.specs.Str.{bytes_eq}
use Rattle.muf_compile.specs.Names.{word_row}
use Rattle.muf_compile.proofs.control.control_of.Given as goal

-- none of the rows before has the word
abbrev pub invariant-loop-row : goal.invariant-loop-row
invariant-loop-row l = find (λ r. bytes_eq r.0 l.word) (map word_row l.row-items) ≡ find (λ r. bytes_eq r.0 l.word) (map word_row (drop l.row-index l.row-items))
