-- Places in a text.
use Rattle.std.specs.Prelude.{◌≡◌, false, ℕ, List, [], ◌∷◌, ◌++◌, ◌==◌, if◌then◌else◌, Option, Some, None, Result, Ok, Err}
use Rattle.muf_token.specs.declared.place.Place.{Place}
use Rattle.muf_token.specs.declared.piece.Piece.TheVariants.{Word}
use Rattle.muf_token.specs.declared.place.Found.{Found}
use Rattle.muf_token.specs.declared.fault.TokenFault.{TokenFault}
use Rattle.muf_token.specs.declared.fault.TokenFault.TheVariants.{Refused, NoMemory}
use Rattle.muf_token.specs.declared.fault.Refusal.{Refusal}
use Rattle.muf_token.specs.Pieces.{lines_below, line_number_below, Front, broken, found, ended, piece_here, word_found, quoted}

-- the text from a place on
abbrev pub text_at : Place → List ℕ
text_at place = place.here.now ++ lines_below place.below.now

-- the first byte at a place, and the place behind it
abbrev pub IsFirst : Place → Option (ℕ × Place) → Type 0
IsFirst place None = text_at place ≡ []
IsFirst place (Some (b, behind)) = (text_at place ≡ b ∷ text_at behind) × (behind.line ≡ (if b == 10 then line_number_below place.line else place.line))

-- a piece begins at this place, or the text ends there; or a fault comes before it
abbrev pub IsLead : Front → Result Place Refusal → Type 0
IsLead front (Ok place) = front ≡ piece_here place.line (text_at place)
IsLead front (Err refusal) = front ≡ broken refusal.line refusal.kind

-- the word that stands at a place, and the place behind it
abbrev pub IsWord : Place → List ℕ → Place → Type 0
IsWord place word behind = word_found place.line (text_at place) ≡ found place.line (Word word) behind.line (text_at behind)

-- the text between quotes whose bytes begin at a place, and the place behind it
abbrev pub IsQuoted : Place → Option (List ℕ × Place) → Type 0
IsQuoted place None = quoted false (text_at place) ≡ None
IsQuoted place (Some (value, behind)) = (quoted false (text_at place) ≡ Some (value, text_at behind)) × (behind.line ≡ place.line)

-- the answer is what stands at the front of a text; want of memory says nothing
abbrev pub IsFront : Front → Result (Option Found) TokenFault → Type 0
IsFront front (Ok (Some at)) = front ≡ found at.line at.piece at.behind.line (text_at at.behind)
IsFront front (Ok None) = front ≡ ended
IsFront front (Err (Refused refusal)) = front ≡ broken refusal.line refusal.kind
IsFront front (Err NoMemory) = Unit {0}
