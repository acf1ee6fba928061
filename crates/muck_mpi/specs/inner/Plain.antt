-- Texts that mean themselves.
use Rattle.std.specs.Prelude.{ℕ, Bool, not, ◌&&◌, ◌==◌, List}
use Rattle.std.specs.List.{list_all}

-- a byte that is neither a bracket nor a `\`
abbrev pub is_plain_byte : ℕ → Bool
is_plain_byte b = not (b == 92) && (not (b == 123) && not (b == 125))

-- a text without brackets and without `\`
abbrev pub is_plain : List ℕ → Bool
is_plain text = list_all is_plain_byte text
