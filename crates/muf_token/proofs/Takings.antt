-- What a list of definitions gives to names, and steps that go on.
use Rattle.std.proofs.Common.{◌≡◌, ℕ, false, cond, List, [], ◌∷◌, Option, Some, Result, Ok, Err, refl, ap, ◌∙◌}
use Rattle.std.specs.Str.{bytes_eq}
use Rattle.std.specs.List.{IsDistinct}
use Rattle.std.specs.Map.{lookup, keys_of}
use Rattle.indexmap.specs.IndexMap.{insert_entry}
use Rattle.muck_model.specs.declared.dbref.Dbref.{Dbref}
use Rattle.muf_token.specs.declared.fault.Refusal.{Refusal}
use Rattle.muf_token.specs.declared.fault.TokenFault.{TokenFault}
use Rattle.muf_token.specs.declared.fault.TokenFault.TheVariants.{Refused, NoMemory}
use Rattle.muf_token.specs.declared.includes.Definition.{Definition}
use Rattle.muf_token.specs.declared.piece.Piece.{Piece}
use Rattle.muf_token.specs.declared.place.Place.{Place}
use Rattle.muf_token.specs.Numbers.{token_kind}
use Rattle.muf_token.specs.Pieces.{lowered, source_pieces}
use Rattle.muf_token.specs.Expansion.{Definitions}
use Rattle.muf_token.specs.Output.{and_then}
use Rattle.muf_token.specs.Directives.{Spot, Name, name_behind}
use Rattle.muf_token.specs.Branches.{is_taking}
use Rattle.muf_token.specs.Source.{SourceState, Step, included_object, with_all, included, include_at, piece_taken, skipped, piece_stepped}
use Rattle.muf_token.specs.inner.Spots.{spot_of}
use Rattle.muf_token.specs.inner.Readers.{LeadsTo, LeadsOn}
use Rattle.muf_token.proofs.Meanings.{lookup_inserted, distinct_inserted}

-- what the list gives a name, where it gives it one, and else this
abbrev pub given : List Definition → List ℕ → Option (List Piece) → Option (List Piece)
given [] q o = o
given (d ∷ list) q o = given list q (cond (bytes_eq (lowered d.name) q) (Some (source_pieces d.text)) o)

pub lookup_given : (list : List Definition) (es : Definitions) (q : List ℕ) → lookup (bytes_eq q) (with_all list es) ≡ given list q (lookup (bytes_eq q) es)
lookup_given [] es q = refl
lookup_given (d ∷ list) es q = lookup_given list (insert_entry bytes_eq es (lowered d.name) (source_pieces d.text)) q ∙ ap (given list q) (lookup_inserted es (lowered d.name) (source_pieces d.text) q)

pub distinct_with_all : (list : List Definition) (es : Definitions) → IsDistinct bytes_eq (keys_of es) → IsDistinct bytes_eq (keys_of (with_all list es))
distinct_with_all [] es d = d
distinct_with_all (x ∷ list) es d = distinct_with_all list _ (distinct_inserted es (lowered x.name) (source_pieces x.text) d)

-- ---- steps

pub leads_on : (step : Step) (r : Result Place TokenFault) (now : SourceState) → LeadsTo step r now → LeadsOn step r now
leads_on step (Ok place) now h = (now, h, λ lent spot. refl)
leads_on step (Err (Refused refusal)) now h = h
leads_on step (Err NoMemory) now h = h

-- a step that goes on at this place
pub goes_on : (step : Step) (r : Result SourceState Refusal) (after : SourceState) (place : Place) → step ≡ and_then r (λ a. Ok (a, spot_of place)) → r ≡ Ok after → LeadsOn step (Ok place) after
goes_on step r after place e f = (after, e ∙ ap (λ x. and_then x (λ a. Ok (a, spot_of place))) f, λ lent spot. refl)

-- a word that isn't read
pub passed_by : (lent : Dbref → Option (List Definition)) (line : ℕ) (piece : Piece) (s after : SourceState) (place : Place) → is_taking s.branches ≡ false → skipped line piece s ≡ Ok after → LeadsOn (piece_stepped lent line piece s (spot_of place)) (Ok place) after
unfolding piece_stepped
passed_by lent line piece s after place off e =
    goes_on (piece_stepped lent line piece s (spot_of place)) (skipped line piece s) after place
    (ap (λ b. cond b (piece_taken lent line piece s (spot_of place)) (and_then (skipped line piece s) (λ a. Ok (a, spot_of place)))) off) e

pub include_is : (lent : Dbref → Option (List Definition)) (line : ℕ) (s after : SourceState) (spot : Spot) (n : Name) (d : Dbref) → name_behind line spot ≡ Ok n → included_object line n (token_kind n.name) ≡ Ok d → included line s (lent d) ≡ Ok after
    → include_at lent line s spot ≡ Ok (after, n.behind)
include_is lent line s after spot n d at object list =
    ap (λ r. and_then r (λ m. and_then (included_object line m (token_kind m.name)) (λ x. and_then (included line s (lent x)) (λ a. Ok (a, m.behind))))) at
    ∙ ap (λ r. and_then r (λ x. and_then (included line s (lent x)) (λ a. Ok (a, n.behind)))) object
    ∙ ap (λ r. and_then r (λ a. Ok (a, n.behind))) list
