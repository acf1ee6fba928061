-- The limits of the values of a record.
use Rattle.std.specs.Prelude.{ℕ, Bool, ◌&&◌, ◌||◌, ◌==◌, nat_le, nat_lt, List, length}
use Rattle.std.specs.List.{list_all}
use Rattle.muck_model.specs.Bytes.{lines_most}
use Rattle.muck_codec.specs.declared.stored.Stored.{Stored}

-- a hex digit in lower case
abbrev pub is_hex_digit : ℕ → Bool
is_hex_digit b = (nat_le 48 b && nat_le b 57) || (nat_le 97 b && nat_le b 102)

-- none, or two digits for each of the 8 bytes of the salt and the 32 of the hash
unfoldable pub is_digest : List ℕ → Bool
is_digest digest = length digest == 0 || (length digest == 80 && list_all is_hex_digit digest)

unfoldable pub record_fits : Stored → Bool
record_fits o = nat_le 1 (length o.name) && (nat_le (length o.name) 80 && (nat_le o.level 3 && (nat_lt o.flags.0 16384 && (nat_le (length o.lines) lines_most && is_digest o.digest))))
