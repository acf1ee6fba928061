-- Places of the program as places of a source, and what is read there.
use Rattle.std.specs.Prelude.{◌≡◌, List, Result, Ok, Err}
use Rattle.muf_token.specs.declared.fault.Refusal.{Refusal}
use Rattle.muf_token.specs.declared.fault.TokenFault.{TokenFault}
use Rattle.muf_token.specs.declared.fault.TokenFault.TheVariants.{Refused, NoMemory}
use Rattle.muf_token.specs.declared.place.Place.{Place}
use Rattle.muf_token.specs.declared.piece.Piece.{Piece}
use Rattle.muf_token.specs.declared.directive.Name.{Name as RustName}
use Rattle.muf_token.specs.inner.Places.{text_at}
use Rattle.muf_token.specs.Directives.{Spot, Name, DefinitionBody}

-- the line and the text of a place
abbrev pub spot_of : Place → Spot
spot_of place = record { line = place.line; text = text_at place }

-- the answer of a call is what is defined, in the program's form; want of memory says nothing
abbrev pub IsAnswer : {A B : Type 0} → (B → A) → Result A Refusal → Result B TokenFault → Type 0
IsAnswer view step (Ok answer) = step ≡ Ok (view answer)
IsAnswer view step (Err (Refused refusal)) = step ≡ Err refusal
IsAnswer view step (Err NoMemory) = Unit {0}

abbrev pub name_of : RustName → Name
name_of n = record { line = n.line; name = n.name; behind = spot_of n.behind }

abbrev pub IsName : Result Name Refusal → Result RustName TokenFault → Type 0
IsName step result = IsAnswer name_of step result

abbrev pub IsBody : Result DefinitionBody Refusal → Result (List Piece × Place) TokenFault → Type 0
IsBody step result = IsAnswer (λ (b : List Piece × Place). (b.0, spot_of b.1)) step result
