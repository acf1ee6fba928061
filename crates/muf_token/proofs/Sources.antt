-- Each piece of a source goes on at a place with less text.
use Rattle.std.proofs.Common.{◌≡◌, ℕ, ◌≤◌, ◌<◌, Bool, true, false, cond, List, [], length, Option, Some, None, Result, Ok, Err, refl, ap, ◌∙◌, subst, arith, zero, suc}
use Rattle.std.specs.List.{position_or_len}
use Rattle.muck_laws.proofs.Parts.{length_drop}
use Rattle.muck_model.specs.declared.dbref.Dbref.{Dbref}
use Rattle.muf_token.specs.declared.fault.FaultKind.{FaultKind}
use Rattle.muf_token.specs.declared.fault.Refusal.{Refusal}
use Rattle.muf_token.specs.declared.token.Token.{Token}
use Rattle.muf_token.specs.declared.piece.Piece.{Piece}
use Rattle.muf_token.specs.declared.piece.Piece.TheVariants.{Word, Text, Broken}
use Rattle.muf_token.specs.declared.directive.Directive.{Directive}
use Rattle.muf_token.specs.declared.directive.Directive.TheVariants.{Def, Define, Undef, Ifdef, Ifndef, Else, Endif, Include}
use Rattle.muf_token.specs.declared.includes.Definition.{Definition}
use Rattle.muf_token.specs.Pieces.{Front, ended, broken, found, piece_ahead}
use Rattle.muf_token.specs.Numbers.{token_kind}
use Rattle.muf_token.specs.Output.{refuse, and_then}
use Rattle.muf_token.specs.Expansion.{is_directive}
use Rattle.muf_token.specs.Branches.{is_taking, outermost}
use Rattle.muf_token.specs.Directives.{directive_of, Spot, Name, name_in, name_behind, is_line_end, is_enddef, DefinitionBody, after_piece, definition_body_in, body_within, body_at}
use Rattle.muf_token.specs.Source.{SourceState, Step, def_at, define_at, undef_at, conditional_at, else_at, endif_at, included_object, included, include_at, directed, put_out, piece_taken, skipped, piece_stepped, words_unless, at_front, words_within, words_from}
use Rattle.muf_token.proofs.Fronts.{IsShorter, front_shorter, found_shorter}

-- what comes next has at most so many bytes
abbrev pub IsWithin : {A : Type 0} → (A → Spot) → ℕ → Result A Refusal → Type 0
IsWithin spot n (Ok a) = length (spot a).text ≤ n
IsWithin spot n (Err refusal) = Unit {0}

within_then : {A B : Type 0} (f : A → Spot) (g : B → Spot) (n : ℕ) (r : Result A Refusal) (next : A → Result B Refusal)
    → IsWithin f n r → ((a : A) → length (f a).text ≤ n → IsWithin g n (next a)) → IsWithin g n (and_then r next)
within_then f g n (Ok a) next h k = k a h
within_then f g n (Err refusal) next h k = tt

-- a step that stays where it is
within_here : {A B : Type 0} (g : B → Spot) (n : ℕ) (r : Result A Refusal) (next : A → B) → ((a : A) → length (g (next a)).text ≤ n) → IsWithin g n (and_then r (λ a. Ok (next a)))
within_here g n (Ok a) next k = k a
within_here g n (Err refusal) next k = tt

within_if : {A : Type 0} (f : A → Spot) (n : ℕ) (b : Bool) (x y : Result A Refusal) → IsWithin f n x → IsWithin f n y → IsWithin f n (cond b x y)
within_if f n true x y h k = h
within_if f n false x y h k = k

abbrev name_spot : Name → Spot
name_spot n = n.behind

abbrev body_spot : DefinitionBody → Spot
body_spot body = body.1

abbrev step_spot : SourceState × Spot → Spot
step_spot p = p.1

name_within_front : (n line : ℕ) (f : Front) → IsShorter n f → IsWithin name_spot n (name_in line f)
name_within_front n line ended h = tt
name_within_front n line (broken at kind) h = tt
name_within_front n line (found at (Word name) there text) h =
    within_if name_spot n (is_directive name) _ (Ok (record { line = at; name = name; behind = record { line = there; text = text } })) tt (omega (arith, h))
name_within_front n line (found at (Text name) there text) h = tt
name_within_front n line (found at (Broken kind) there text) h = tt

name_within : (line : ℕ) (spot : Spot) → IsWithin name_spot (length spot.text) (name_behind line spot)
name_within line spot = name_within_front (length spot.text) line (piece_ahead None spot.line spot.text) (front_shorter None spot.line spot.text)

body_within_more : (n : ℕ) (piece : Piece) (rest : Result DefinitionBody Refusal) → IsWithin body_spot n rest → IsWithin body_spot n (after_piece piece rest)
body_within_more n piece (Ok body) h = h
body_within_more n piece (Err refusal) h = tt

body_within_front : (n line : ℕ) (rest : ℕ → List ℕ → Result DefinitionBody Refusal) (f : Front) → IsShorter n f → ((there : ℕ) (text : List ℕ) → length text ≤ n → IsWithin body_spot n (rest there text)) → IsWithin body_spot n (definition_body_in rest line f)
body_within_front n line rest ended h k = tt
body_within_front n line rest (broken at kind) h k = tt
body_within_front n line rest (found at piece there text) h k =
    within_if body_spot n (is_enddef piece) (Ok ([], record { line = there; text = text })) (after_piece piece (rest there text)) (omega (arith, h))
    (body_within_more n piece (rest there text) (k there text (omega (arith, h))))

shorter_still : (n m : ℕ) (f : Front) → n ≤ m → IsShorter n f → IsShorter m f
shorter_still n m ended h s = tt
shorter_still n m (broken line kind) h s = tt
shorter_still n m (found line piece there text) h s = omega (arith, h, s)

body_within_text : (most n line at : ℕ) (text : List ℕ) → length text ≤ n → IsWithin body_spot n (body_within most line at text)
body_within_text zero n line at text h = tt
body_within_text (suc most) n line at text h =
    body_within_front n line (body_within most line) (piece_ahead None at text) (shorter_still _ _ (piece_ahead None at text) h (front_shorter None at text))
    (λ there rest less. body_within_text most n line there rest less)

body_within_spot : (line n : ℕ) (spot : Spot) → length spot.text ≤ n → IsWithin body_spot n (body_at line spot)
unfolding body_at
body_within_spot line n spot h = body_within_text (suc (length spot.text)) n line spot.line spot.text h

def_within : (line : ℕ) (s : SourceState) (spot : Spot) → IsWithin step_spot (length spot.text) (def_at line s spot)
def_within line s spot = within_then name_spot step_spot _ (name_behind line spot) _ (name_within line spot)
    (λ n h. omega (arith, h, length_drop (position_or_len is_line_end n.behind.text) n.behind.text))

define_within : (line : ℕ) (s : SourceState) (spot : Spot) → IsWithin step_spot (length spot.text) (define_at line s spot)
define_within line s spot = within_then name_spot step_spot _ (name_behind line spot) _ (name_within line spot)
    (λ n h. within_then body_spot step_spot _ (body_at line n.behind) _ (body_within_spot line _ n.behind h) (λ body k. k))

undef_within : (line : ℕ) (s : SourceState) (spot : Spot) → IsWithin step_spot (length spot.text) (undef_at line s spot)
undef_within line s spot = within_then name_spot step_spot _ (name_behind line spot) _ (name_within line spot) (λ n h. h)

conditional_within : (wanted : Bool) (line : ℕ) (s : SourceState) (spot : Spot) → IsWithin step_spot (length spot.text) (conditional_at wanted line s spot)
conditional_within wanted line s spot = within_then name_spot step_spot _ (name_behind line spot) _ (name_within line spot) (λ n h. h)

module _ (lent : Dbref → Option (List Definition)) where
  include_from : (n line : ℕ) (s : SourceState) (name : Name) (object : Result Dbref Refusal) → length name.behind.text ≤ n
      → IsWithin step_spot n (and_then object (λ d. and_then (included line s (lent d)) (λ after. Ok (after, name.behind))))
  include_from n line s name (Err refusal) h = tt
  include_from n line s name (Ok d) h = within_here step_spot n (included line s (lent d)) (λ after. (after, name.behind)) (λ after. h)

  include_within : (line : ℕ) (s : SourceState) (spot : Spot) → IsWithin step_spot (length spot.text) (include_at lent line s spot)
  include_within line s spot = within_then name_spot step_spot _ (name_behind line spot) _ (name_within line spot)
      (λ n h. include_from _ line s n (included_object line n (token_kind n.name)) h)

  directed_within : (line : ℕ) (directive : Option Directive) (s : SourceState) (spot : Spot) → IsWithin step_spot (length spot.text) (directed lent line directive s spot)
  directed_within line None s spot = tt
  directed_within line (Some Def) s spot = def_within line s spot
  directed_within line (Some Define) s spot = define_within line s spot
  directed_within line (Some Undef) s spot = undef_within line s spot
  directed_within line (Some Ifdef) s spot = conditional_within true line s spot
  directed_within line (Some Ifndef) s spot = conditional_within false line s spot
  directed_within line (Some Else) s spot = within_here step_spot _ (else_at line s) (λ after. (after, spot)) (λ after. omega arith)
  directed_within line (Some Endif) s spot = within_here step_spot _ (endif_at line s) (λ after. (after, spot)) (λ after. omega arith)
  directed_within line (Some Include) s spot = include_within line s spot

  put_within : (line : ℕ) (piece : Piece) (s : SourceState) (spot : Spot) → IsWithin step_spot (length spot.text) (and_then (put_out line piece s) (λ after. Ok (after, spot)))
  put_within line piece s spot = within_here step_spot _ (put_out line piece s) (λ after. (after, spot)) (λ after. omega arith)

  taken_within : (line : ℕ) (piece : Piece) (s : SourceState) (spot : Spot) → IsWithin step_spot (length spot.text) (piece_taken lent line piece s spot)
  taken_within line (Word word) s spot = within_if step_spot _ (is_directive word) (directed lent line (directive_of word) s spot) _
      (directed_within line (directive_of word) s spot) (put_within line (Word word) s spot)
  taken_within line (Text text) s spot = put_within line (Text text) s spot
  taken_within line (Broken kind) s spot = put_within line (Broken kind) s spot

  pub stepped_within : (line : ℕ) (piece : Piece) (s : SourceState) (spot : Spot) → IsWithin step_spot (length spot.text) (piece_stepped lent line piece s spot)
  unfolding piece_stepped
  stepped_within line piece s spot = within_if step_spot _ (is_taking s.branches) (piece_taken lent line piece s spot) _
      (taken_within line piece s spot) (within_here step_spot _ (skipped line piece s) (λ after. (after, spot)) (λ after. omega arith))

  alike_behind : (n : ℕ) (r : Step) (g h : SourceState → Spot → Result (List Token) Refusal) → IsWithin step_spot n r → ((s : SourceState) (spot : Spot) → length spot.text ≤ n → g s spot ≡ h s spot)
      → and_then r (λ p. g p.0 p.1) ≡ and_then r (λ p. h p.0 p.1)
  alike_behind n (Ok p) g h w k = k p.0 p.1 w
  alike_behind n (Err refusal) g h w k = refl

  alike : (n : ℕ) (s : SourceState) (f : Front) (g h : SourceState → Spot → Result (List Token) Refusal) → IsShorter n f → ((s : SourceState) (spot : Spot) → length spot.text < n → g s spot ≡ h s spot)
      → at_front lent g s f ≡ at_front lent h s f
  alike n s ended g h w k = refl
  alike n s (broken line kind) g h w k = refl
  alike n s (found line piece there text) g h w k =
      alike_behind (length text) (piece_stepped lent line piece s (record { line = there; text = text })) g h (stepped_within line piece s (record { line = there; text = text }))
      (λ after spot less. k after spot (omega (arith, less, w)))

  -- more than enough is enough
  words_enough : (n m : ℕ) (s : SourceState) (spot : Spot) → length spot.text < n → length spot.text < m → words_within lent n s spot ≡ words_within lent m s spot
  words_enough zero m s spot h k = absurd (omega (arith, h))
  words_enough (suc n) zero s spot h k = absurd (omega (arith, k))
  words_enough (suc n) (suc m) s spot h k =
      alike (length spot.text) s (piece_ahead None spot.line spot.text) (words_within lent n) (words_within lent m) (front_shorter None spot.line spot.text)
      (λ after place less. words_enough n m after place (omega (arith, less, h)) (omega (arith, less, k)))

  pub words_ended : (s : SourceState) (spot : Spot) → piece_ahead None spot.line spot.text ≡ ended → words_from lent s spot ≡ words_unless s.out.words (outermost s.branches)
  unfolding words_from
  words_ended s spot e = ap (at_front lent (words_within lent (length spot.text)) s) e

  pub words_broken : (s : SourceState) (spot : Spot) (line : ℕ) (kind : FaultKind) → piece_ahead None spot.line spot.text ≡ broken line kind → words_from lent s spot ≡ refuse line kind
  unfolding words_from
  words_broken s spot line kind e = ap (at_front lent (words_within lent (length spot.text)) s) e

  pub words_refused : (s : SourceState) (spot : Spot) (line there : ℕ) (piece : Piece) (text : List ℕ) (refusal : Refusal) → piece_ahead None spot.line spot.text ≡ found line piece there text
      → piece_stepped lent line piece s (record { line = there; text = text }) ≡ Err refusal → words_from lent s spot ≡ Err refusal
  unfolding words_from
  words_refused s spot line there piece text refusal e f =
      ap (at_front lent (words_within lent (length spot.text)) s) e ∙ ap (λ r. and_then r (λ p. words_within lent (length spot.text) p.0 p.1)) f

  -- how much is left behind a step
  pub step_shorter : (s after : SourceState) (spot next : Spot) (line there : ℕ) (piece : Piece) (text : List ℕ) → piece_ahead None spot.line spot.text ≡ found line piece there text
      → piece_stepped lent line piece s (record { line = there; text = text }) ≡ Ok (after, next) → length next.text < length spot.text
  step_shorter s after spot next line there piece text e f =
      let within : length next.text ≤ length text = subst (IsWithin step_spot (length text)) f (stepped_within line piece s (record { line = there; text = text })) in
      omega (arith, within, found_shorter None spot.line line there piece spot.text text e)

  pub words_stepped : (s after : SourceState) (spot next : Spot) (line there : ℕ) (piece : Piece) (text : List ℕ) → piece_ahead None spot.line spot.text ≡ found line piece there text
      → piece_stepped lent line piece s (record { line = there; text = text }) ≡ Ok (after, next) → words_from lent s spot ≡ words_from lent after next
  unfolding words_from
  words_stepped s after spot next line there piece text e f =
      ap (at_front lent (words_within lent (length spot.text)) s) e
      ∙ ap (λ r. and_then r (λ p. words_within lent (length spot.text) p.0 p.1)) f
      ∙ words_enough (length spot.text) (suc (length next.text)) after next (step_shorter s after spot next line there piece text e f) (omega arith)

pub ruleset sources = (words_ended, words_broken, words_refused, words_stepped, step_shorter)
