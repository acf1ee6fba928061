use Rattle.std.proofs.Common.{◌≡◌, ◌+◌, ◌++◌, length, take}
use Rattle.std.specs.List.{slice_split}
use Rattle.std.specs.Option.{option_map_or}
use Rattle.muck_model.specs.Bytes.{text_most}
use Rattle.spec_live.specs.Output.{is_return, sent_lines_bytes}
use Rattle.muck_board.specs.inner.Pieces.{pieces_after}
use Rattle.muck_board.proofs.sent.Sent.of_text.Given as goal

abbrev pub invariant-loop-rest : goal.invariant-loop-rest
invariant-loop-rest l = l.bytes.items ++ sent_lines_bytes (pieces_after l.rest) ≡ sent_lines_bytes (slice_split is_return (take text_most l.text))

abbrev pub decreases-loop-rest : goal.decreases-loop-rest
decreases-loop-rest l = option_map_or (λ t. length t.now + 1) l.rest 0
