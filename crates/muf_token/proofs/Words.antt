-- Words and the white space behind them.
use Rattle.std.proofs.Common.{◌≡◌, ℕ, ◌≤◌, ◌+◌, true, not, cond, List, [], ◌∷◌, ◌++◌, length, take, drop, refl, ap, sym, ◌∙◌, arith}
use Rattle.muck_laws.proofs.Parts.{drop_within, length_drop, length_take, take_within}
use Rattle.muck_laws.proofs.Tests.{position_within}
use Rattle.std.proofs.lemmas.List.{length-map}
use Rattle.std.proofs.lemmas.Bool.Decides.{nat_tests}
use Rattle.std.specs.List.{position_or_len}
use Rattle.std.specs.Char.{to_ascii_lowercase}
use Rattle.muck_model.specs.Bytes.{is_outside}
use Rattle.muf_token.specs.inner.Bytes.{are_inside}
use Rattle.muf_token.specs.declared.piece.Piece.TheVariants.{Word}
use Rattle.muf_token.specs.Pieces.{is_blank_byte, lowered, lines_below, found, word_found}
use Rattle.muf_token.proofs.Texts.{inside_head, inside_tail, inside_cons, inside_take, inside_drop}

lower_inside : (b : ℕ) → not (is_outside b) ≡ true → not (is_outside (to_ascii_lowercase b)) ≡ true
lower_inside b h = grind (arith, nat_tests)

pub inside_lowered : (word : List ℕ) → are_inside word ≡ true → are_inside (lowered word) ≡ true
inside_lowered [] h = refl
inside_lowered (b ∷ word) h = inside_cons (to_ascii_lowercase b) (lowered word) (lower_inside b (inside_head b word h)) (inside_lowered word (inside_tail b word h))

pub length_lowered : (word : List ℕ) → length (lowered word) ≡ length word
length_lowered word = length-map word to_ascii_lowercase

pub ruleset lower_texts = (inside_lowered, length_lowered)

-- a word ends where its line ends
pub word_in_line : (here : List ℕ) (lines : List (List ℕ)) → position_or_len is_blank_byte (here ++ lines_below lines) ≡ position_or_len is_blank_byte here
word_in_line [] [] = refl
word_in_line [] (line ∷ lines) = refl
word_in_line (b ∷ here) lines = ap (λ n. cond (not (is_blank_byte b)) (1 + n) 0) (word_in_line here lines)

-- the word at a place, in the words of its line
pub word_split : (line : ℕ) (here : List ℕ) (lines : List (List ℕ)) (n : ℕ) → n ≡ position_or_len is_blank_byte here
    → word_found line (here ++ lines_below lines) ≡ found line (Word (lowered (take n here))) line (drop n here ++ lines_below lines)
word_split line here lines n e =
    let within : n ≤ length here = omega (arith, position_within is_blank_byte here, e) in
    let same : position_or_len is_blank_byte (here ++ lines_below lines) ≡ n = word_in_line here lines ∙ sym e in
    rw (same, take_within n here (lines_below lines) within, drop_within n here (lines_below lines) within) refl

pub ruleset words = (word_split, inside_take, inside_drop, length_take, length_drop)
