-- What the program knows at a place of a source.
use Rattle.std.specs.Prelude.{◌≡◌, ◌<◌, ℕ, length, List, Option, Some, None, Result, Ok, Err}
use Rattle.muf_token.specs.declared.fault.TokenFault.{TokenFault}
use Rattle.muf_token.specs.declared.fault.TokenFault.TheVariants.{Refused, NoMemory}
use Rattle.muf_token.specs.declared.place.Place.{Place}
use Rattle.muf_token.specs.declared.reader.Reader.{Reader}
use Rattle.muf_token.specs.inner.Spots.{spot_of}
use Rattle.muck_model.specs.declared.dbref.Dbref.{Dbref}
use Rattle.muf_token.specs.declared.includes.Definition.{Definition}
use Rattle.muf_token.specs.Branches.{outermost}
use Rattle.muf_token.specs.Directives.{Spot}
use Rattle.muf_token.specs.Source.{SourceState, Step, included, words_from, words_unless}
use Rattle.muf_token.specs.inner.Layers.{told, IsReady}

-- the definitions, the conditionals and the words of a reader
abbrev pub state_of : Reader → SourceState
state_of r = record { definitions = told r.definitions; branches = r.branches; out = r.out }

-- the answer of a call that changes what is known, and goes on at a place; want of memory says nothing
abbrev pub LeadsTo : Step → Result Place TokenFault → SourceState → Type 0
LeadsTo step (Ok place) now = step ≡ Ok (now, spot_of place)
LeadsTo step (Err (Refused refusal)) now = step ≡ Err refusal
LeadsTo step (Err NoMemory) now = Unit {0}

-- a piece was read: the words from this place on are those from the next one on, which has less text before it; or
-- there is none, and the words are those so far; or they are refused
abbrev pub IsRead : (Dbref → Option (List Definition)) → SourceState → Spot → Result (Option Place) TokenFault → SourceState → Type 0
IsRead lent s spot (Ok (Some next)) now = (words_from lent s spot ≡ words_from lent now (spot_of next)) × (length (spot_of next).text < length spot.text)
IsRead lent s spot (Ok None) now = (now ≡ s) × (words_from lent s spot ≡ words_unless s.out.words (outermost s.branches))
IsRead lent s spot (Err (Refused refusal)) now = words_from lent s spot ≡ Err refusal
IsRead lent s spot (Err NoMemory) now = Unit {0}

-- from any place on both give the same words
abbrev pub SayTheSame : SourceState → SourceState → Type 0
SayTheSame s t = (lent : Dbref → Option (List Definition)) (spot : Spot) → words_from lent s spot ≡ words_from lent t spot

-- the answer of a call that goes on at a place; what is known then may be told in other ways, which give the same words
abbrev pub LeadsOn : Step → Result Place TokenFault → SourceState → Type 0
LeadsOn step (Ok place) now = (after : SourceState) × (step ≡ Ok (after, spot_of place)) × SayTheSame after now
LeadsOn step (Err (Refused refusal)) now = step ≡ Err refusal
LeadsOn step (Err NoMemory) now = Unit {0}

-- the answer of a call that readies the definitions of an object, and then goes on; where it lends none, the `$include` is refused
abbrev pub Readies : (Dbref → Option (List Definition)) → ℕ → Dbref → Reader → Reader → Result (Unit {0}) TokenFault → Type 0
Readies lent line d old new (Ok x) = IsReady lent d old.definitions new.definitions × (new.branches ≡ old.branches) × (new.out ≡ old.out)
Readies lent line d old new (Err (Refused refusal)) = included line (state_of old) (lent d) ≡ Err refusal
Readies lent line d old new (Err NoMemory) = Unit {0}

-- no definition was made or taken away
abbrev pub AreKept : Reader → Reader → Type 0
AreKept old new = new.definitions ≡ old.definitions
