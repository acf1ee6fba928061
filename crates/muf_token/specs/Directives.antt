-- Directives, and what stands behind them.
use Rattle.std.specs.Prelude.{ℕ, Bool, false, ◌==◌, if◌then◌else◌, List, [], ◌∷◌, length, drop, codes, Option, Some, None, Result, Ok, zero, suc}
use Rattle.std.specs.Str.{bytes_eq}
use Rattle.std.specs.List.{before_first, position_or_len}
use Rattle.muf_token.specs.declared.fault.FaultKind.TheVariants.{BadDirective}
use Rattle.muf_token.specs.declared.fault.Refusal.{Refusal}
use Rattle.muf_token.specs.declared.directive.Directive.{Directive}
use Rattle.muf_token.specs.declared.directive.Directive.TheVariants.{Def, Define, Undef, Ifdef, Ifndef, Else, Endif, Include}
use Rattle.muf_token.specs.declared.piece.Piece.{Piece}
use Rattle.muf_token.specs.declared.piece.Piece.TheVariants.{Word}
use Rattle.muf_token.specs.Pieces.{Front, ended, broken, found, piece_ahead}
use Rattle.muf_token.specs.Expansion.{is_directive}
use Rattle.muf_token.specs.Output.{refuse, and_then}

-- the directive that a word asks for
unfoldable pub directive_of : List ℕ → Option Directive
directive_of word =
    if bytes_eq word (codes "$def") then Some Def
    else if bytes_eq word (codes "$define") then Some Define
    else if bytes_eq word (codes "$undef") then Some Undef
    else if bytes_eq word (codes "$ifdef") then Some Ifdef
    else if bytes_eq word (codes "$ifndef") then Some Ifndef
    else if bytes_eq word (codes "$else") then Some Else
    else if bytes_eq word (codes "$endif") then Some Endif
    else if bytes_eq word (codes "$include") then Some Include
    else None

-- a place in a source: the number of its line, and the text from there on
pub record Spot : Type 0 where
  pub line : ℕ
  pub text : List ℕ

-- a name, its line, and the place behind it
pub record Name : Type 0 where
  pub line : ℕ
  pub name : List ℕ
  pub behind : Spot

abbrev pub name_in : ℕ → Front → Result Name Refusal
name_in line ended = refuse line BadDirective
name_in line (broken at kind) = refuse at kind
name_in line (found at (Word name) there text) =
    if is_directive name then refuse line BadDirective
    else Ok (record { line = at; name = name; behind = record { line = there; text = text } })
name_in line (found at _ there text) = refuse line BadDirective

-- the name behind the directive at this line: the next word, past white space, line ends and comments
abbrev pub name_behind : ℕ → Spot → Result Name Refusal
name_behind line spot = name_in line (piece_ahead None spot.line spot.text)

abbrev pub is_line_end : ℕ → Bool
is_line_end b = b == 10

-- the rest of the line
abbrev pub rest_of_line : List ℕ → List ℕ
rest_of_line text = before_first is_line_end text

-- the place where the line ends
abbrev pub end_of_line : Spot → Spot
end_of_line spot = record spot { text = drop (position_or_len is_line_end spot.text) spot.text }

-- whether a piece ends the words of a `$define`
abbrev pub is_enddef : Piece → Bool
is_enddef (Word word) = bytes_eq word (codes "$enddef")
is_enddef _ = false

abbrev pub DefinitionBody : Type 0
DefinitionBody = List Piece × Spot

abbrev pub after_piece : Piece → Result DefinitionBody Refusal → Result DefinitionBody Refusal
after_piece piece rest = and_then rest (λ body. Ok (piece ∷ body.0, body.1))

abbrev pub definition_body_in : (ℕ → List ℕ → Result DefinitionBody Refusal) → ℕ → Front → Result DefinitionBody Refusal
definition_body_in rest line ended = refuse line BadDirective
definition_body_in rest line (broken at kind) = refuse at kind
definition_body_in rest line (found at piece there text) =
    if is_enddef piece then Ok ([], record { line = there; text = text }) else after_piece piece (rest there text)

-- the same, of so many pieces at most
abbrev pub body_within : ℕ → ℕ → ℕ → List ℕ → Result DefinitionBody Refusal
body_within zero line at text = refuse line BadDirective
body_within (suc most) line at text = definition_body_in (body_within most line) line (piece_ahead None at text)

-- the pieces between the name of the `$define` at this line and the first `$enddef`, and the place behind that
unfoldable pub body_at : ℕ → Spot → Result DefinitionBody Refusal
body_at line spot = body_within (suc (length spot.text)) line spot.line spot.text
