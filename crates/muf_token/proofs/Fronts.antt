-- A piece takes a byte at least.
use Rattle.std.proofs.Common.{◌≡◌, ℕ, ◌≤◌, ◌<◌, Bool, true, false, cond, eqb, List, [], ◌∷◌, ◌++◌, length, Option, Some, None, refl, ap, sym, ◌∙◌, subst, arith, zero, suc, append_assoc}
use Rattle.std.proofs.lemmas.Bool.{cond_both}
use Rattle.std.specs.List.{position_or_len}
use Rattle.muck_laws.proofs.Parts.{word_rest}
use Rattle.muf_token.specs.declared.fault.FaultKind.{FaultKind}
use Rattle.muf_token.specs.declared.piece.Piece.{Piece}
use Rattle.muf_token.specs.declared.piece.Piece.TheVariants.{Broken}
use Rattle.muf_token.specs.Pieces.{is_blank_byte, line_number_below, Front, ended, broken, found, after_byte, quoted, text_found, word_found, piece_here, piece_ahead, then_source_pieces, first_pieces}

-- what stands behind the piece has fewer than so many bytes
abbrev pub IsShorter : ℕ → Front → Type 0
IsShorter n ended = Unit {0}
IsShorter n (broken line kind) = Unit {0}
IsShorter n (found line piece there text) = length text < n

shorter_more : (n m : ℕ) (f : Front) → n ≤ m → IsShorter n f → IsShorter m f
shorter_more n m ended h s = tt
shorter_more n m (broken line kind) h s = tt
shorter_more n m (found line piece there text) h s = omega (arith, h, s)

shorter_if : (n : ℕ) (b : Bool) (x y : Front) → (b ≡ true → IsShorter n x) → (b ≡ false → IsShorter n y) → IsShorter n (cond b x y)
shorter_if n b x y h k = cond_both b x y (IsShorter n) h k

abbrev EndsWithin : ℕ → Option (List ℕ × List ℕ) → Type 0
EndsWithin n None = Unit {0}
EndsWithin n (Some p) = length p.1 < n

within_byte : (n b : ℕ) (r : Option (List ℕ × List ℕ)) → EndsWithin n r → EndsWithin (suc n) (after_byte b r)
within_byte n b None h = tt
within_byte n b (Some p) h = omega (arith, h)

within_more : (n : ℕ) (r : Option (List ℕ × List ℕ)) → EndsWithin n r → EndsWithin (suc n) r
within_more n None h = tt
within_more n (Some p) h = omega (arith, h)

within_if : (n : ℕ) (b : Bool) (x y : Option (List ℕ × List ℕ)) → EndsWithin n x → EndsWithin n y → EndsWithin n (cond b x y)
within_if n true x y h k = h
within_if n false x y h k = k

quoted_shorter : (escaped : Bool) (text : List ℕ) → EndsWithin (length text) (quoted escaped text)
quoted_shorter true [] = tt
quoted_shorter false [] = tt
quoted_shorter true (b ∷ text) = within_if _ (eqb b 10) None _ tt (within_byte _ _ _ (quoted_shorter false text))
quoted_shorter false (b ∷ text) =
    within_if _ (eqb b 10) None _ tt
    (within_if _ (eqb b 34) (Some ([], text)) _ (omega arith)
    (within_if _ (eqb b 92) (quoted true text) _ (within_more _ _ (quoted_shorter true text)) (within_byte _ _ _ (quoted_shorter false text))))

text_shorter : (n line : ℕ) (r : Option (List ℕ × List ℕ)) → EndsWithin n r → IsShorter n (text_found line r)
text_shorter n line None h = tt
text_shorter n line (Some p) h = h

word_shorter : (line b : ℕ) (text : List ℕ) → is_blank_byte b ≡ false → IsShorter (length (b ∷ text)) (word_found line (b ∷ text))
word_shorter line b text h = word_rest b text (is_blank_byte b) (position_or_len is_blank_byte text) h

here_shorter : (line b : ℕ) (text : List ℕ) → is_blank_byte b ≡ false → IsShorter (length (b ∷ text)) (piece_here line (b ∷ text))
here_shorter line b text h =
    shorter_if _ (eqb b 34) (text_found line (quoted false text)) (word_found line (b ∷ text))
    (λ e. text_shorter _ line (quoted false text) (within_more _ _ (quoted_shorter false text))) (λ e. word_shorter line b text h)

pub front_shorter : (inside : Option ℕ) (line : ℕ) (text : List ℕ) → IsShorter (length text) (piece_ahead inside line text)
unfolding piece_ahead
front_shorter None line [] = tt
front_shorter (Some began) line [] = tt
front_shorter None line (b ∷ text) =
    shorter_if _ (eqb b 10) (piece_ahead None (line_number_below line) text) _ (λ e. shorter_more _ _ _ (omega arith) (front_shorter None (line_number_below line) text)) (λ e.
    shorter_if _ (is_blank_byte b) (piece_ahead None line text) _ (λ e. shorter_more _ _ _ (omega arith) (front_shorter None line text)) (λ blank.
    shorter_if _ (eqb b 40) (piece_ahead (Some line) line text) (piece_here line (b ∷ text)) (λ e. shorter_more _ _ _ (omega arith) (front_shorter (Some line) line text)) (λ e.
    here_shorter line b text blank)))
front_shorter (Some began) line (b ∷ text) =
    shorter_if _ (eqb b 10) (piece_ahead (Some began) (line_number_below line) text) _ (λ e. shorter_more _ _ _ (omega arith) (front_shorter (Some began) (line_number_below line) text)) (λ e.
    shorter_if _ (eqb b 41) (piece_ahead None line text) (piece_ahead (Some began) line text) (λ e. shorter_more _ _ _ (omega arith) (front_shorter None line text)) (λ e.
    shorter_more _ _ _ (omega arith) (front_shorter (Some began) line text)))

-- the text behind a piece that was found is shorter
pub found_shorter : (inside : Option ℕ) (line at there : ℕ) (piece : Piece) (text rest : List ℕ) → piece_ahead inside line text ≡ found at piece there rest → length rest < length text
found_shorter inside line at there piece text rest e = subst (IsShorter (length text)) e (front_shorter inside line text)

-- two ways to go on agree where they agree on each shorter text
pub pieces_alike : (n : ℕ) (f : Front) (g h : ℕ → List ℕ → List Piece) → IsShorter n f → ((there : ℕ) (rest : List ℕ) → length rest < n → g there rest ≡ h there rest) → then_source_pieces f g ≡ then_source_pieces f h
pieces_alike n ended g h s k = refl
pieces_alike n (broken line kind) g h s k = refl
pieces_alike n (found line piece there text) g h s k = ap (λ rest. piece ∷ rest) (k there text s)

-- more than enough is enough
pub pieces_enough : (n m line : ℕ) (text : List ℕ) → length text < n → length text < m → first_pieces n line text ≡ first_pieces m line text
pieces_enough zero m line text h k = absurd (omega (arith, h))
pieces_enough (suc n) zero line text h k = absurd (omega (arith, k))
pieces_enough (suc n) (suc m) line text h k =
    pieces_alike (length text) (piece_ahead None line text) (first_pieces n) (first_pieces m) (front_shorter None line text)
    (λ there rest less. pieces_enough n m there rest (omega (arith, less, h)) (omega (arith, less, k)))

-- the pieces of a text, all of them
abbrev pub pieces_from : ℕ → List ℕ → List Piece
pieces_from line text = first_pieces (suc (length text)) line text

pub pieces_ended : (line : ℕ) (text : List ℕ) → piece_ahead None line text ≡ ended → pieces_from line text ≡ []
pieces_ended line text e = ap (λ f. then_source_pieces f (first_pieces (length text))) e

pub pieces_broken : (line at : ℕ) (kind : FaultKind) (text : List ℕ) → piece_ahead None line text ≡ broken at kind → pieces_from line text ≡ Broken kind ∷ []
pieces_broken line at kind text e = ap (λ f. then_source_pieces f (first_pieces (length text))) e

pub pieces_found : (line at there : ℕ) (piece : Piece) (text rest : List ℕ) → piece_ahead None line text ≡ found at piece there rest → pieces_from line text ≡ piece ∷ pieces_from there rest
pieces_found line at there piece text rest e =
    ap (λ f. then_source_pieces f (first_pieces (length text))) e
    ∙ ap (λ more. piece ∷ more) (pieces_enough (length text) (suc (length rest)) there rest (found_shorter None line at there piece text rest e) (omega arith))

pub pieces_more : (list : List Piece) (line at there : ℕ) (piece : Piece) (text rest : List ℕ) (whole : List Piece) → piece_ahead None line text ≡ found at piece there rest
    → list ++ pieces_from line text ≡ whole → (list ++ piece ∷ []) ++ pieces_from there rest ≡ whole
pieces_more list line at there piece text rest whole e h =
    append_assoc list (piece ∷ []) (pieces_from there rest) ∙ ap (λ more. list ++ more) (sym (pieces_found line at there piece text rest e)) ∙ h

pub ruleset pieces_rules = (pieces_ended, pieces_broken, pieces_found, pieces_more, found_shorter)
