-- Bytes of which a text may be made.
use Rattle.std.specs.Prelude.{◌≡◌, ℕ, List, length}
use Rattle.std.specs.List.{position_or_len}
use Rattle.muck_model.specs.Bytes.{is_outside}

-- none of these bytes is one that no text has
abbrev pub AreInside : List ℕ → Type 0
AreInside bytes = position_or_len is_outside bytes ≡ length bytes
