-- Bytes of lines.
use Rattle.std.specs.Prelude.{◌≡◌, ℕ, not, List, length}
use Rattle.std.specs.List.{prefix_len}
use Rattle.muck_model.specs.Bytes.{is_outside}

-- all of them may stand in a text
abbrev pub AreInside : List ℕ → Type 0
AreInside bytes = prefix_len (λ b. not (is_outside b)) bytes ≡ length bytes
