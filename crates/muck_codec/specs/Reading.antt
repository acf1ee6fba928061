-- Parts that are read off the front of bytes. A part gives its value and the bytes behind it; or, where no bytes of
-- that kind continue what stands there, how many bytes are left from the first on that nothing continues.
use Rattle.std.specs.Prelude.{◌≡◌, ℕ, ◌+◌, ◌-◌, ◌*◌, zero, suc, List, [], ◌∷◌, length, take, drop, Option, Some, None, Result, Ok, Err, nat_lt, slice_get, ◌||◌, if◌then◌else◌}
use Rattle.std.specs.Option.{option_map}
use Rattle.std.specs.Int.{Width, w16, w32, byte_len, from_be_bytes, cast_signed}
use Rattle.muck_model.specs.Bytes.{text_fault}
use Rattle.muck_model.specs.declared.dbref.Dbref.{Dbref}
use Rattle.muck_codec.specs.declared.fault.Unread.{Unread}
use Rattle.muck_codec.specs.declared.fault.Unread.TheVariants as unread

infixl 10 ◌>>=◌
abbrev pub ◌>>=◌ : {A B : Type 0} → Result A ℕ → (A → Result B ℕ) → Result B ℕ
(Ok x) >>= f = f x
(Err left) >>= f = Err left

-- What a function returned, seen by view, is what reading gives, unless memory ran out.
abbrev pub Fails : {Y : Type 0} → Unread → Result Y ℕ → Type 0
Fails unread.NoMemory read = Unit {0}
Fails (unread.Left left) read = read ≡ Err left

abbrev pub Gives : {X Y : Type 0} → (X → Y) → Result X Unread → Result Y ℕ → Type 0
Gives view (Ok x) read = read ≡ Ok (view x)
Gives view (Err e) read = Fails e read

-- one part behind another
abbrev pub both_read : {A B : Type 0} → (List ℕ → Result (A × List ℕ) ℕ) → (List ℕ → Result (B × List ℕ) ℕ) → List ℕ → Result ((A × B) × List ℕ) ℕ
both_read first second bytes = first bytes >>= λ a. second a.1 >>= λ b. Ok ((a.0, b.0), b.1)

-- a count, and so many things
abbrev pub count_then_items : {A : Type 0} → (List ℕ → Result (ℕ × List ℕ) ℕ) → (ℕ → List ℕ → Result (A × List ℕ) ℕ) → List ℕ → Result (A × List ℕ) ℕ
count_then_items count items bytes = count bytes >>= λ n. items n.0 n.1

-- the key of the last of some things
abbrev pub last_key : {A K : Type 0} → (A → K) → List A → Option K
last_key key xs = option_map key (slice_get xs (length xs - 1))

-- so many things, each read with the key of the one before it
unfoldable pub several : {A K : Type 0} → (A → K) → (Option K → List ℕ → Result (A × List ℕ) ℕ) → Option K → ℕ → List ℕ → Result (List A × List ℕ) ℕ
several key part before zero bytes = Ok ([], bytes)
several key part before (suc n) bytes = part before bytes >>= λ first. several key part (Some (key first.0)) n first.1 >>= λ others. Ok (first.0 ∷ others.0, others.1)

-- a part, seen as another value
abbrev pub mapped : {A B : Type 0} → (A → B) → (List ℕ → Result (A × List ℕ) ℕ) → List ℕ → Result (B × List ℕ) ℕ
mapped f part bytes = part bytes >>= λ a. Ok (f a.0, a.1)

abbrev pub byte_at : List ℕ → Result (ℕ × List ℕ) ℕ
byte_at [] = Err 0
byte_at (b ∷ rest) = Ok (b, rest)

-- a number of so many bytes, the highest first
abbrev pub number_at : Width → List ℕ → Result (ℕ × List ℕ) ℕ
number_at w bytes = if nat_lt (length bytes) (byte_len w) then Err 0 else Ok (from_be_bytes w (take (byte_len w) bytes), drop (byte_len w) bytes)

abbrev pub dbref_at : List ℕ → Result (Dbref × List ℕ) ℕ
dbref_at bytes = number_at w32 bytes >>= λ n. Ok (record { 0 = cast_signed w32 n.0 }, n.1)

-- a number of two bytes within bounds, of which the lower is below 256
abbrev pub short_at : ℕ → ℕ → List ℕ → Result (ℕ × List ℕ) ℕ
short_at least most [] = Err 0
short_at least most (high ∷ []) = if nat_lt most (256 * high) then Err 1 else Err 0
short_at least most (high ∷ low ∷ rest) =
    if nat_lt most (256 * high) then Err (2 + length rest)
    else if nat_lt (from_be_bytes w16 (high ∷ low ∷ [])) least || nat_lt most (from_be_bytes w16 (high ∷ low ∷ [])) then Err (1 + length rest)
    else Ok (from_be_bytes w16 (high ∷ low ∷ []), rest)

abbrev pub text_if : ℕ → List ℕ → Option ℕ → Result (List ℕ × List ℕ) ℕ
text_if n bytes (Some at) = Err (length bytes - at)
text_if n bytes None = if nat_lt (length bytes) n then Err 0 else Ok (take n bytes, drop n bytes)

-- so many bytes of a text
unfoldable pub text_bytes_read : ℕ → List ℕ → Result (List ℕ × List ℕ) ℕ
text_bytes_read n bytes = text_if n bytes (text_fault (take n bytes))

-- the length of a text, within bounds, and its bytes
unfoldable pub text_at : ℕ → ℕ → List ℕ → Result (List ℕ × List ℕ) ℕ
text_at least most bytes = count_then_items (short_at least most) text_bytes_read bytes
