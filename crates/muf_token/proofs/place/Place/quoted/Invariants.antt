use Rattle.std.proofs.Common.{◌≡◌, ◌≤◌, ◌+◌, ◌++◌, true, false, length}
use Rattle.muck_model.specs.Bytes.{text_most}
use Rattle.muf_token.specs.inner.Bytes.{are_inside}
use Rattle.muf_token.specs.Pieces.{quoted, lines_below}
use Rattle.muf_token.specs.inner.Places.{text_at}
use Rattle.muf_token.proofs.Quotes.{after_bytes}
use Rattle.muf_token.proofs.place.Place.quoted.Given as goal

-- what was read, and then what is read of the rest, is what is read of the whole
abbrev pub invariant-loop-byte : goal.invariant-loop-byte
invariant-loop-byte l = record {
  whole : after_bytes l.value.items (quoted l.escaped (l.here ++ lines_below l.fn.self.below.now)) ≡ quoted false (text_at l.fn.self);
  here : are_inside l.here ≡ true;
  value : are_inside l.value.items ≡ true;
  short : length l.value.items + length l.here ≤ text_most;
}

abbrev pub decreases-loop-byte : goal.decreases-loop-byte
decreases-loop-byte l = length l.here
