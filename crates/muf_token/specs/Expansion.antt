-- What a piece stands for: a defined word for the words of its definition, which are read for definitions in turn.
use Rattle.std.specs.Prelude.{ℕ, Bool, false, ◌==◌, if◌then◌else◌, List, [], ◌∷◌, Option, Some, None, Result, Ok, zero, suc}
use Rattle.std.specs.Str.{bytes_eq}
use Rattle.std.specs.Map.{lookup}
use Rattle.muf_token.specs.declared.fault.FaultKind.TheVariants.{BadDirective, EndlessDefs}
use Rattle.muf_token.specs.declared.fault.Refusal.{Refusal}
use Rattle.muf_token.specs.declared.token.TokenKind.TheVariants.{Text as text_kind}
use Rattle.muf_token.specs.declared.piece.Piece.{Piece}
use Rattle.muf_token.specs.declared.piece.Piece.TheVariants.{Word, Text, Broken}
use Rattle.muf_token.specs.declared.output.Output.{Output}
use Rattle.muf_token.specs.Numbers.{token_kind}
use Rattle.muf_token.specs.Output.{refuse, and_then, word_put, definition_used}

-- names, each with the pieces of its definition
abbrev pub Definitions : Type 0
Definitions = List (List ℕ × List Piece)

-- a word that begins with `$` asks for a directive, and is never a name
abbrev pub is_directive : List ℕ → Bool
is_directive [] = false
is_directive (b ∷ bytes) = b == 36

-- each piece in turn, up to the first refusal
abbrev pub each_piece : (Piece → Output → Result Output Refusal) → List Piece → Output → Result Output Refusal
each_piece step [] out = Ok out
each_piece step (piece ∷ pieces) out = and_then (step piece out) (each_piece step pieces)

-- a word with its definition, if it has one
abbrev pub word_expanded : (List Piece → Output → Result Output Refusal) → ℕ → List ℕ → Option (List Piece) → Output → Result Output Refusal
word_expanded replaced line word None out = word_put line (token_kind word) out
word_expanded replaced line word (Some body) out = replaced body out

-- a piece, where `replaced` does with a definition's pieces what is to be done
abbrev pub piece_by : (List Piece → Output → Result Output Refusal) → Definitions → ℕ → Piece → Output → Result Output Refusal
piece_by replaced definitions line (Broken kind) out = refuse line kind
piece_by replaced definitions line (Text text) out = word_put line (Some (text_kind text)) out
piece_by replaced definitions line (Word word) out =
    if is_directive word then refuse line BadDirective else word_expanded replaced line word (lookup (bytes_eq word) definitions) out

-- what a piece at this line stands for, where this many more definitions may be open at once
unfoldable pub expanded : ℕ → Definitions → ℕ → Piece → Output → Result Output Refusal
expanded zero definitions line = piece_by (λ body out. refuse line EndlessDefs) definitions line
expanded (suc deeper) definitions line = piece_by (λ body out. and_then (definition_used line out) (each_piece (expanded deeper definitions line) body)) definitions line
