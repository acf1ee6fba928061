-- How a text falls into pieces: white space, comments, texts between quotes, and words.
use Rattle.std.specs.Prelude.{ℕ, ◌+◌, ◌-◌, ◌^◌, min, Bool, true, false, ◌||◌, ◌==◌, if◌then◌else◌, List, [], ◌∷◌, ◌++◌, length, map, drop, Option, Some, None, zero, suc}
use Rattle.std.specs.Char.{to_ascii_lowercase}
use Rattle.std.specs.List.{before_first, position_or_len}
use Rattle.std.specs.Option.{option_map}
use Rattle.muf_token.specs.declared.fault.FaultKind.{FaultKind}
use Rattle.muf_token.specs.declared.fault.FaultKind.TheVariants.{OpenString, OpenComment}
use Rattle.muf_token.specs.declared.piece.Piece.{Piece}
use Rattle.muf_token.specs.declared.piece.Piece.TheVariants.{Word, Text, Broken}

-- a line's end, byte 13 or a space
abbrev pub is_blank_byte : ℕ → Bool
is_blank_byte b = b == 10 || b == 13 || b == 32

-- a word without its case
abbrev pub lowered : List ℕ → List ℕ
lowered word = map to_ascii_lowercase word

-- what stands behind a line: the lines below it, each after a byte 10
abbrev pub lines_below : List (List ℕ) → List ℕ
lines_below [] = []
lines_below (line ∷ lines) = 10 ∷ (line ++ lines_below lines)

-- the lines as one text, with a byte 10 between each two
abbrev pub source_joined : List (List ℕ) → List ℕ
source_joined [] = []
source_joined (line ∷ lines) = line ++ lines_below lines

-- the number of the line below this one; it stands still at the last number that 32 bits hold
abbrev pub line_number_below : ℕ → ℕ
line_number_below line = min (line + 1) (2 ^ 32 - 1)

-- what stands at the front of a text: nothing more, a fault with its line, or a piece with its line and, behind it, the
-- number of the line there and the text there
pub data Front : Type 0 where
  ended : Front
  broken : ℕ → FaultKind → Front
  found : ℕ → Piece → ℕ → List ℕ → Front

-- one byte more before the bytes of a text between quotes
abbrev pub after_byte : ℕ → Option (List ℕ × List ℕ) → Option (List ℕ × List ℕ)
after_byte b rest = option_map (λ p. (b ∷ p.0, p.1)) rest

-- what a byte behind a backslash stands for: `r` for byte 13, any other for itself
abbrev pub escaped_byte : ℕ → ℕ
escaped_byte b = if b == 114 then 13 else b

-- the bytes of a text between quotes, up to its closing quote, and what stands behind that; none where the line ends
-- first. A byte is `escaped` where a backslash stands before it
abbrev pub quoted : Bool → List ℕ → Option (List ℕ × List ℕ)
quoted escaped [] = None
quoted true (b ∷ bytes) = if b == 10 then None else after_byte (escaped_byte b) (quoted false bytes)
quoted false (b ∷ bytes) =
    if b == 10 then None
    else if b == 34 then Some ([], bytes)
    else if b == 92 then quoted true bytes
    else after_byte b (quoted false bytes)

abbrev pub text_found : ℕ → Option (List ℕ × List ℕ) → Front
text_found line None = broken line OpenString
text_found line (Some p) = found line (Text p.0) line p.1

abbrev pub word_found : ℕ → List ℕ → Front
word_found line text = found line (Word (lowered (before_first is_blank_byte text))) line (drop (position_or_len is_blank_byte text) text)

-- a piece that begins here: a text between quotes, or a word, which ends at white space alone
abbrev pub piece_here : ℕ → List ℕ → Front
piece_here line [] = ended
piece_here line (b ∷ bytes) = if b == 34 then text_found line (quoted false bytes) else word_found line (b ∷ bytes)

-- the first piece behind white space and comments. A comment goes from `(` to the next `)`, on whatever line; `inside`
-- is the line at which one began that is open
unfoldable pub piece_ahead : Option ℕ → ℕ → List ℕ → Front
piece_ahead None line [] = ended
piece_ahead (Some began) line [] = broken began OpenComment
piece_ahead None line (b ∷ bytes) =
    if b == 10 then piece_ahead None (line_number_below line) bytes
    else if is_blank_byte b then piece_ahead None line bytes
    else if b == 40 then piece_ahead (Some line) line bytes
    else piece_here line (b ∷ bytes)
piece_ahead (Some began) line (b ∷ bytes) =
    if b == 10 then piece_ahead (Some began) (line_number_below line) bytes
    else if b == 41 then piece_ahead None line bytes
    else piece_ahead (Some began) line bytes

-- one piece, and what follows it
abbrev pub then_source_pieces : Front → (ℕ → List ℕ → List Piece) → List Piece
then_source_pieces ended rest = []
then_source_pieces (broken line kind) rest = Broken kind ∷ []
then_source_pieces (found line piece there text) rest = piece ∷ rest there text

-- the first pieces of a text, up to a fault. Each takes a byte at least, so that with `most` above the count of its
-- bytes these are all
abbrev pub first_pieces : ℕ → ℕ → List ℕ → List Piece
first_pieces zero line text = []
first_pieces (suc most) line text = then_source_pieces (piece_ahead None line text) (first_pieces most)

-- all pieces of a text that is one line, up to a fault
unfoldable pub source_pieces : List ℕ → List Piece
source_pieces text = first_pieces (suc (length text)) 0 text
