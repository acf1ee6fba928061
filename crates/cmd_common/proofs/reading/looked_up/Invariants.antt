use Rattle.std.proofs.Common.{◌≡◌, map, drop}
use Rattle.spec_commands.specs.Reading.{looked_up}
use Rattle.cmd_common.specs.inner.Takes.{word_row}
use Rattle.cmd_common.proofs.reading.looked_up.Given as goal

-- none of the rows before has the word
abbrev pub invariant-loop-row : goal.invariant-loop-row
invariant-loop-row g l = looked_up (map word_row l.rows) l.word ≡ looked_up (map word_row (drop l.row-index l.rows)) l.word
