-- How long the texts of an object are at most, and how high its numbers.
use Rattle.std.specs.Prelude.{◌≡◌, ◌⊎◌, ℕ, ◌<◌, ◌≤◌, ◌^◌, nat_le, Bool, ◌&&◌, ◌||◌, List, [], length, Some}
use Rattle.muck_model.specs.Bytes.{lines_most}
use Rattle.std.specs.List.{AllPass}
use Rattle.spec_live.specs.declared.object.Object.{Object}
use Rattle.spec_live.specs.Objects.{Entry, object_in}

-- a hex digit in lower case
abbrev pub is_digit : ℕ → Bool
is_digit b = (nat_le 48 b && nat_le b 57) || (nat_le 97 b && nat_le b 102)

-- none, or two digits for each of the 8 bytes of the salt and the 32 of the hash
abbrev pub IsDigest : List ℕ → Type 0
IsDigest digest = (digest ≡ []) ⊎ ((length digest ≡ 80) × AllPass is_digit digest)

pub record FitsLimits (o : Object) : Type 0 where
  pub named : 1 ≤ length o.name
  pub short : length o.name ≤ 80
  pub level : o.level ≤ 3
  pub flags : o.flags.0 < 2 ^ 14
  pub lines : length o.lines ≤ lines_most
  pub digest : IsDigest o.digest

-- every object, garbage too, is within the limits
abbrev pub IsWithinLimits : List Entry → Type 0
IsWithinLimits es = (k : ℕ) (o : Object) → object_in es k ≡ Some o → FitsLimits o
