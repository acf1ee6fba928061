-- The bracket grammar: where a text balances, its pieces, and the arguments between commas.
use Rattle.std.specs.Prelude.{◌≡◌, ℕ, ◌+◌, ◌-◌, zero, suc, Bool, false, not, ◌&&◌, ◌==◌, nat_lt, if◌then◌else◌, List, [], ◌∷◌, length, take, drop, None}
use Rattle.muck_model.specs.Bytes.{is_outside, text_fault}
use Rattle.mpi.specs.declared.brackets.Scan.{Scan}
use Rattle.mpi.specs.declared.brackets.Ahead.{Ahead}
use Rattle.mpi.specs.declared.brackets.Piece.{Piece as Kept}
use Rattle.mpi.specs.declared.brackets.Piece.TheVariants.{Byte, Call}

abbrev pub scan_begun : Scan
scan_begun = record { deep = 0; escaped = false }

-- how many brackets are open behind a byte: `{` opens one and `}` closes one
abbrev pub deeper : ℕ → ℕ → ℕ
deeper b n = if b == 123 then n + 1 else if b == 125 then n - 1 else n

-- behind a byte: one behind a `\` opens and closes nothing
abbrev pub byte_passed : ℕ → Scan → Scan
byte_passed b s =
    if s.escaped then record { deep = s.deep; escaped = false }
    else record { deep = deeper b s.deep; escaped = b == 92 }

-- the byte ahead is the one wanted, within no bracket and not behind a `\`
abbrev pub is_outside_brackets : ℕ → ℕ → Scan → Bool
is_outside_brackets wanted b s = not s.escaped && (s.deep == 0) && (b == wanted)

-- each `{` has its `}`, and each `}` its `{`
unfoldable pub balances : Scan → List ℕ → Bool
balances s [] = s.deep == 0
balances s (b ∷ more) = if is_outside_brackets 125 b s then false else balances (byte_passed b s) more

-- how many bytes stand before the first free one that is wanted
unfoldable pub part_len : ℕ → Scan → List ℕ → ℕ
part_len wanted s [] = 0
part_len wanted s (b ∷ more) = if is_outside_brackets wanted b s then 0 else suc (part_len wanted (byte_passed b s) more)

abbrev pub part : ℕ → List ℕ → List ℕ
part wanted text = take (part_len wanted scan_begun text) text

abbrev pub behind_part : ℕ → List ℕ → List ℕ
behind_part wanted text = drop (suc (part_len wanted scan_begun text)) text

-- A text is pieces: bytes, and functions, which are what stands between two brackets.
pub data FormulaPiece : Type 0 where
  byte : ℕ → FormulaPiece
  call : List ℕ → FormulaPiece

-- `\r` means byte 13, and any other byte behind a `\` itself
abbrev pub byte_meant : ℕ → ℕ
byte_meant b = if b == 114 then 13 else b

-- a `\` takes the byte behind it; one that ends the text stands for itself
abbrev pub escaped : List ℕ → FormulaPiece × List ℕ
escaped [] = (byte 92, [])
escaped (b ∷ more) = (byte (byte_meant b), more)

abbrev pub call_ahead : List ℕ → FormulaPiece × List ℕ
call_ahead more = (call (part 125 more), behind_part 125 more)

-- the first piece, and what stands behind it
abbrev pub first_piece : ℕ → List ℕ → FormulaPiece × List ℕ
first_piece b more =
    if b == 92 then escaped more
    else if b == 123 then call_ahead more
    else (byte b, more)

-- at most so many pieces
unfoldable pub pieces_up_to : ℕ → List ℕ → List FormulaPiece
pieces_up_to zero text = []
pieces_up_to (suc n) [] = []
pieces_up_to (suc n) (b ∷ more) = (first_piece b more).0 ∷ pieces_up_to n (first_piece b more).1

-- all pieces: each takes a byte or more
abbrev pub formula_pieces : List ℕ → List FormulaPiece
formula_pieces text = pieces_up_to (length text) text

-- at most so many arguments
unfoldable pub arguments_up_to : ℕ → List ℕ → List (List ℕ)
arguments_up_to zero text = []
arguments_up_to (suc n) text =
    if nat_lt (part_len 44 scan_begun text) (length text)
    then part 44 text ∷ arguments_up_to n (behind_part 44 text)
    else text ∷ []

-- the arguments between free commas: one at least, which may be empty
abbrev pub arguments : List ℕ → List (List ℕ)
arguments text = arguments_up_to (suc (length text)) text

-- a piece as the code has it
abbrev pub seen_piece : Kept → FormulaPiece
seen_piece (Byte b) = byte b
seen_piece (Call body) = call body.now

abbrev pub seen_ahead : Ahead → FormulaPiece × List ℕ
seen_ahead a = (seen_piece a.piece, a.rest.now)

-- what stands between brackets is a text, and a byte for itself may stand in one
abbrev pub IsPart : Kept → Type 0
IsPart (Byte b) = is_outside b ≡ false
IsPart (Call body) = text_fault body.now ≡ None
