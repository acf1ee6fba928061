-- The lines of bytes.
use Rattle.std.specs.Prelude.{ℕ, Bool, ◌&&◌, ◌==◌, if◌then◌else◌, nat_le, List, [], ◌∷◌, take, map}
use Rattle.muck_links.specs.declared.cutter.Mode.{Mode}
use Rattle.muck_links.specs.declared.cutter.Mode.TheVariants.{Plain, Command, Choice, Inside, Ending}

-- where a byte leads: a telnet command is 255 with 251 to 254 and one byte, or 255 250 up to 255 240, or 255 and any other byte
abbrev pub next_mode : Mode → ℕ → Mode
next_mode Plain b = if b == 255 then Command else Plain
next_mode Command b = if b == 250 then Inside else if nat_le 251 b && nat_le b 254 then Choice else Plain
next_mode Choice b = Plain
next_mode Inside b = if b == 255 then Ending else Inside
next_mode Ending b = if b == 240 then Plain else if b == 255 then Ending else Inside

abbrev pub outside_command : Mode → ℕ → List ℕ → List ℕ
outside_command Plain b bs = if b == 255 then bs else b ∷ bs
outside_command mode b bs = bs

-- the bytes that belong to no telnet command
abbrev pub bare_bytes : Mode → List ℕ → List ℕ
bare_bytes mode [] = []
bare_bytes mode (b ∷ bs) = outside_command mode b (bare_bytes (next_mode mode b) bs)

abbrev pub onto_first : ℕ → List (List ℕ) → List (List ℕ)
onto_first b [] = []
onto_first b (piece ∷ pieces) = (b ∷ piece) ∷ pieces

-- what stands before each byte 10; a last piece without one gives nothing
abbrev pub line_pieces : List ℕ → List (List ℕ)
line_pieces [] = []
line_pieces (b ∷ bs) = if b == 10 then [] ∷ line_pieces bs else onto_first b (line_pieces bs)

abbrev pub is_shown_byte : ℕ → Bool
is_shown_byte b = nat_le 32 b && nat_le b 126

abbrev pub only_shown : List ℕ → List ℕ
only_shown [] = []
only_shown (b ∷ bs) = if is_shown_byte b then b ∷ only_shown bs else only_shown bs

-- the most bytes of a line
unfoldable pub line_most : ℕ
line_most = 2048

-- the first shown bytes, as many as a line has
abbrev pub text : List ℕ → List ℕ
text bs = take line_most (only_shown bs)

-- the lines of these bytes
unfoldable pub lines : List ℕ → List (List ℕ)
lines bytes = map text (line_pieces (bare_bytes Plain bytes))
