-- How lines are kept: each with its end, one behind the other.
use Rattle.std.specs.Prelude.{◌≡◌, ◌≤◌, ℕ, ◌+◌, Bool, true, false, if◌then◌else◌, List, [], ◌∷◌, length}
use Rattle.std.specs.List.{AllByRecursion, list_any, onto_first}
use Rattle.muck_model.specs.Bytes.{text_most}
use Rattle.spec_live.specs.Output.{is_return, sent_form, sent_lines_bytes}

-- The lines of these bytes. Each ends with a byte 13, and the one behind it is passed over.
unfoldable pub lines_from : Bool → List ℕ → List (List ℕ)
lines_from over [] = []
lines_from true (b ∷ bytes) = lines_from false bytes
lines_from false (b ∷ bytes) = if is_return b then [] ∷ lines_from true bytes else onto_first b (lines_from false bytes)

abbrev pub lines_in : List ℕ → List (List ℕ)
lines_in bytes = lines_from false bytes

-- the most bytes of a text, with the ends of its lines
abbrev pub sent_most : ℕ
sent_most = text_most + text_most + 2

-- a line of a text
pub record IsLine (line : List ℕ) : Type 0 where
  pub whole : list_any is_return line ≡ false
  pub short : length (sent_form line) ≤ sent_most

-- these bytes are lines with their ends
pub record IsLines (bytes : List ℕ) : Type 0 where
  pub ended : bytes ≡ sent_lines_bytes (lines_in bytes)
  pub each : AllByRecursion IsLine (lines_in bytes)
