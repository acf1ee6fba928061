-- Texts that come as they are.
use Rattle.std.specs.Prelude.{ℕ, Bool, ◌&&◌, nat_le, List, length}
use Rattle.std.specs.List.{list_all}
use Rattle.muck_links.specs.Lines.{is_shown_byte, line_most}

-- each byte is shown, and there are no more than a line has
abbrev pub is_plain : List ℕ → Bool
is_plain text = list_all is_shown_byte text && nat_le (length text) line_most
