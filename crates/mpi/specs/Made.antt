-- Texts that are made: how long they may be.
use Rattle.std.specs.Prelude.{◌≡◌, ℕ, Bool, true, false, not, nat_lt, if◌then◌else◌, List, length, ◌++◌, is_none, Option, Some, None, Result, Ok, Err}
use Rattle.std.specs.List.{list_all}
use Rattle.muck_model.specs.Bytes.{is_outside, text_most, text_fault}
use Rattle.mpi.specs.declared.fault.MpiFault.{MpiFault}
use Rattle.mpi.specs.declared.fault.MpiFault.TheVariants.{BadValue, TooLong, NoMemory}

-- bytes that a text may have, however many
abbrev pub Inside : List ℕ → Type 0
Inside bytes = list_all (λ b. not (is_outside b)) bytes ≡ true

-- these bytes are a text
abbrev pub is_text : List ℕ → Bool
is_text bytes = is_none (text_fault bytes)

-- a text is longer than the most
unfoldable pub is_long : List ℕ → Bool
is_long text = nat_lt text_most (length text)

abbrev pub text_or_long : List ℕ → Result (List ℕ) MpiFault
text_or_long text = if is_long text then Err TooLong else Ok text

-- a text that has grown, or would be too long; want of memory alone is free
abbrev pub IsGrown : List ℕ → List ℕ → List ℕ → Result (Unit {0}) MpiFault → Type 0
IsGrown old more new (Ok done) = (new ≡ old ++ more) × (is_long (old ++ more) ≡ false)
IsGrown old more new (Err NoMemory) = Unit {0}
IsGrown old more new (Err fault) = (fault ≡ TooLong) × (is_long (old ++ more) ≡ true)

-- what may be lacking, or be too long
abbrev pub found_text : Option (List ℕ) → Result (List ℕ) MpiFault
found_text None = Err BadValue
found_text (Some text) = text_or_long text
