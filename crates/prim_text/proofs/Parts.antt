-- What is joined piece by piece.
use Rattle.std.proofs.Common.{◌≡◌, ℕ, ◌<◌, ◌+◌, List, [], ◌∷◌, ◌++◌, map, Option, Some, None, length, take, drop, arith, length-append, ap, sym, ◌∙◌}
use Rattle.std.proofs.lemmas.Bool.{cond-true, lt-ltb}
use Rattle.std.proofs.lemmas.List.{append_assoc, map-append}
use Rattle.muf_model.specs.Datum.{Datum, int, text}
use Rattle.std.specs.Prelude.{pos}
use Rattle.std.proofs.lemmas.List.{length-map}
use Rattle.muf_model.specs.declared.value.Value.{Value}
use Rattle.muf_model.specs.Answer.{makes}
use Rattle.muf_model.specs.inner.View.{view}
use Rattle.muck_model.specs.Bytes.{text_fault, text_most}
use Rattle.muf_model.specs.Texts.{first_place, text_pieces, texts_joined}
use Rattle.muf_model.specs.TextRows.{text_within, counted_texts}
use Rattle.muf_model.proofs.FaultTexts.{IsInside}
use Rattle.prim_text.proofs.Pieces.{pieces_more, pieces_last, joined_further, joined_last}
use Rattle.muf_model.proofs.FaultTexts.{inside-append}
use Rattle.prim_text.proofs.Texts.{text-drop, take_inside, to_inside}

-- what is too long already is too long with more behind it
sized_over : (front rest : List ℕ) → text_most < length front → text_within front ≡ text_within (front ++ rest)
sized_over front rest over =
    cond-true _ _ _ (lt-ltb text_most (length front) over)
    ∙ sym (cond-true _ _ _ (lt-ltb text_most (length (front ++ rest)) (omega (arith, over, length-append front rest))))

-- one more piece, and the text that stands in place of the one that was sought
pub one_more : (made other sought rest whole after : List ℕ) (at : ℕ) → 0 < length sought → Some at ≡ first_place sought rest → made ++ texts_joined other (text_pieces sought rest) ≡ whole → after ≡ (made ++ take at rest) ++ other → after ++ texts_joined other (text_pieces sought (drop (at + length sought) rest)) ≡ whole
one_more made other sought rest whole after at some found so_far e =
    ap (λ r. r ++ texts_joined other (text_pieces sought (drop (at + length sought) rest))) e ∙ sym (joined_further made other sought rest at some (sym found)) ∙ so_far

pub too_long : (whole after more : List ℕ) → text_most < length after → after ++ more ≡ whole → text_within after ≡ text_within whole
too_long whole after more over e = sized_over after more over ∙ ap text_within e

pub at_last : (made other sought rest whole after : List ℕ) → None ≡ first_place sought rest → made ++ texts_joined other (text_pieces sought rest) ≡ whole → after ≡ made ++ rest → text_within after ≡ text_within whole
at_last made other sought rest whole after found so_far e =
    ap text_within (e ∙ ap (λ r. made ++ r) (sym (joined_last other sought rest (sym found))) ∙ so_far)

pub last_inside : (made rest after : List ℕ) → IsInside made → text_fault rest ≡ None → after ≡ made ++ rest → IsInside after
last_inside made rest after h l e = rw e (inside-append made rest h (to_inside rest l))

pub more_inside : (made other rest after : List ℕ) (at : ℕ) → IsInside made → text_fault other ≡ None → text_fault rest ≡ None → after ≡ (made ++ take at rest) ++ other → IsInside after
more_inside made other rest after at h k l e = rw e (inside-append (made ++ take at rest) other (inside-append made (take at rest) h (take_inside at rest l)) (to_inside other k))

-- one more piece, behind those that stand there
pub next_piece : (made after whole : List Datum) (sought rest : List ℕ) (at : ℕ) → 0 < length sought → Some at ≡ first_place sought rest → made ++ map text (text_pieces sought rest) ≡ whole → after ≡ made ++ (text (take at rest) ∷ []) → after ++ map text (text_pieces sought (drop (at + length sought) rest)) ≡ whole
next_piece made after whole sought rest at some found so_far e =
    let more = map text (text_pieces sought (drop (at + length sought) rest)) in
    ap (λ r. r ++ more) e ∙ append_assoc made (text (take at rest) ∷ []) more ∙ ap (λ ps. made ++ map text ps) (sym (pieces_more sought rest at some (sym found))) ∙ so_far

pub last_piece : (made after whole : List Datum) (sought rest : List ℕ) → None ≡ first_place sought rest → made ++ map text (text_pieces sought rest) ≡ whole → after ≡ made ++ (text rest ∷ []) → after ≡ whole
last_piece made after whole sought rest found so_far e = e ∙ ap (λ ps. made ++ map text ps) (sym (pieces_last sought rest (sym found))) ∙ so_far

pub ruleset piece_steps = (map-append)

-- pieces with their count before them
pub counted : (items after : List Value) (ps : List (List ℕ)) (count : Value) (n : ℕ) → map view items ≡ map text ps → n ≡ length items → view count ≡ int (pos n) → after ≡ count ∷ items → counted_texts ps ≡ makes (map view after)
counted items after ps count n e l v a =
    let same : length ps ≡ n = sym (length-map ps text) ∙ ap length (sym e) ∙ length-map items view ∙ sym l in
    ap (λ k. makes (int (pos k) ∷ map text ps)) same ∙ ap (λ r. makes (int (pos n) ∷ r)) (sym e) ∙ ap (λ x. makes (x ∷ map view items)) (sym v) ∙ ap (λ r. makes (map view r)) (sym a)

pub ruleset join_steps = (text-drop, to_inside, inside-append)

pub ruleset cut_steps = (text-drop)
