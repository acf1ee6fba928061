-- The pieces between a `$define`'s name and its `$enddef`.
use Rattle.std.proofs.Common.{◌≡◌, ℕ, ◌<◌, true, false, cond, List, [], ◌∷◌, ◌++◌, length, None, Result, Ok, Err, refl, ap, sym, ◌∙◌, arith, zero, suc, append_assoc}
use Rattle.muck_laws.proofs.Lists.{append_none}
use Rattle.muf_token.specs.declared.fault.FaultKind.{FaultKind}
use Rattle.muf_token.specs.declared.fault.FaultKind.TheVariants.{BadDirective}
use Rattle.muf_token.specs.declared.fault.Refusal.{Refusal}
use Rattle.muf_token.specs.declared.piece.Piece.{Piece}
use Rattle.muf_token.specs.Pieces.{Front, ended, broken, found, piece_ahead}
use Rattle.muf_token.specs.Output.{refuse, and_then}
use Rattle.muf_token.specs.Directives.{DefinitionBody, is_enddef, after_piece, definition_body_in, body_within, body_at}
use Rattle.muf_token.proofs.Fronts.{IsShorter, front_shorter, found_shorter}

-- these pieces, and then what the rest gives
abbrev pub after_pieces : List Piece → Result DefinitionBody Refusal → Result DefinitionBody Refusal
after_pieces list rest = and_then rest (λ body. Ok (list ++ body.0, body.1))

after_more : (list : List Piece) (piece : Piece) (rest : Result DefinitionBody Refusal) → after_pieces (list ++ piece ∷ []) rest ≡ after_pieces list (after_piece piece rest)
after_more list piece (Err refusal) = refl
after_more list piece (Ok body) = ap (λ pieces. Ok (pieces, body.1)) (append_assoc list (piece ∷ []) body.0)

pub after_no_pieces : (rest : Result DefinitionBody Refusal) → after_pieces [] rest ≡ rest
after_no_pieces (Err refusal) = refl
after_no_pieces (Ok body) = refl

alike : (n line : ℕ) (f : Front) (g h : ℕ → List ℕ → Result DefinitionBody Refusal) → IsShorter n f → ((there : ℕ) (rest : List ℕ) → length rest < n → g there rest ≡ h there rest) → definition_body_in g line f ≡ definition_body_in h line f
alike n line ended g h s k = refl
alike n line (broken at kind) g h s k = refl
alike n line (found at piece there text) g h s k = ap (λ rest. cond (is_enddef piece) (Ok ([], record { line = there; text = text })) (after_piece piece rest)) (k there text s)

-- more than enough is enough
body_enough : (n m line at : ℕ) (text : List ℕ) → length text < n → length text < m → body_within n line at text ≡ body_within m line at text
body_enough zero m line at text h k = absurd (omega (arith, h))
body_enough (suc n) zero line at text h k = absurd (omega (arith, k))
body_enough (suc n) (suc m) line at text h k =
    alike (length text) line (piece_ahead None at text) (body_within n line) (body_within m line) (front_shorter None at text)
    (λ there rest less. body_enough n m line there rest (omega (arith, less, h)) (omega (arith, less, k)))

pub body_found : (line at place there : ℕ) (piece : Piece) (text rest : List ℕ) → piece_ahead None at text ≡ found place piece there rest
    → body_at line (record { line = at; text = text }) ≡ cond (is_enddef piece) (Ok ([], record { line = there; text = rest })) (after_piece piece (body_at line (record { line = there; text = rest })))
unfolding body_at
body_found line at place there piece text rest e =
    ap (λ f. definition_body_in (body_within (length text) line) line f) e
    ∙ ap (λ more. cond (is_enddef piece) (Ok ([], record { line = there; text = rest })) (after_piece piece more))
    (body_enough (length text) (suc (length rest)) line there rest (found_shorter None at place there piece text rest e) (omega arith))

pub body_ended : (line at : ℕ) (text : List ℕ) → piece_ahead None at text ≡ ended → body_at line (record { line = at; text = text }) ≡ refuse line BadDirective
unfolding body_at
body_ended line at text e = ap (λ f. definition_body_in (body_within (length text) line) line f) e

pub body_broken : (line at place : ℕ) (kind : FaultKind) (text : List ℕ) → piece_ahead None at text ≡ broken place kind → body_at line (record { line = at; text = text }) ≡ refuse place kind
unfolding body_at
body_broken line at place kind text e = ap (λ f. definition_body_in (body_within (length text) line) line f) e

-- one piece more was found, and it doesn't end the words
pub body_more : (list : List Piece) (line at place there : ℕ) (piece : Piece) (text rest : List ℕ) (whole : Result DefinitionBody Refusal) → piece_ahead None at text ≡ found place piece there rest → is_enddef piece ≡ false
    → after_pieces list (body_at line (record { line = at; text = text })) ≡ whole → after_pieces (list ++ piece ∷ []) (body_at line (record { line = there; text = rest })) ≡ whole
body_more list line at place there piece text rest whole e plain h =
    let found_here : body_at line (record { line = at; text = text }) ≡ after_piece piece (body_at line (record { line = there; text = rest })) =
    body_found line at place there piece text rest e ∙ ap (λ b. cond b (Ok ([], record { line = there; text = rest })) (after_piece piece (body_at line (record { line = there; text = rest })))) plain in
    after_more list piece (body_at line (record { line = there; text = rest })) ∙ ap (after_pieces list) (sym found_here) ∙ h

-- the piece that was found ends them
pub body_done : (list : List Piece) (line at place there : ℕ) (piece : Piece) (text rest : List ℕ) (whole : Result DefinitionBody Refusal) → piece_ahead None at text ≡ found place piece there rest → is_enddef piece ≡ true
    → after_pieces list (body_at line (record { line = at; text = text })) ≡ whole → whole ≡ Ok (list, record { line = there; text = rest })
body_done list line at place there piece text rest whole e ends h =
    let found_here : body_at line (record { line = at; text = text }) ≡ Ok ([], record { line = there; text = rest }) =
    body_found line at place there piece text rest e ∙ ap (λ b. cond b (Ok ([], record { line = there; text = rest })) (after_piece piece (body_at line (record { line = there; text = rest })))) ends in
    sym h ∙ ap (after_pieces list) found_here ∙ ap (λ pieces. Ok (pieces, record { line = there; text = rest })) (append_none list)

-- the text ended, or has a fault
pub body_none : (list : List Piece) (line at : ℕ) (text : List ℕ) (whole : Result DefinitionBody Refusal) → piece_ahead None at text ≡ ended
    → after_pieces list (body_at line (record { line = at; text = text })) ≡ whole → whole ≡ refuse line BadDirective
body_none list line at text whole e h = sym h ∙ ap (after_pieces list) (body_ended line at text e)

pub body_fault : (list : List Piece) (line at place : ℕ) (kind : FaultKind) (text : List ℕ) (whole : Result DefinitionBody Refusal) → piece_ahead None at text ≡ broken place kind
    → after_pieces list (body_at line (record { line = at; text = text })) ≡ whole → whole ≡ refuse place kind
body_fault list line at place kind text whole e h = sym h ∙ ap (after_pieces list) (body_broken line at place kind text e)

pub ruleset bodies = (after_no_pieces, body_more, body_done, body_none, body_fault, found_shorter)
