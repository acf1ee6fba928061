-- What comes of a text that is sent.
use Rattle.std.proofs.Common.{◌≡◌, ℕ, Bool, true, false, not, cond, List, [], ◌∷◌, ◌++◌, length, take, map, refl, sym, ◌∙◌, ap, arith, Option, Some, None, ltb}
use Rattle.std.specs.Prelude.{◌==◌, MatchOption}
use Rattle.std.proofs.lemmas.Bool.{cond-true, cond-false, le-ltb, leb-true, and_parts}
use Rattle.std.proofs.lemmas.Bool.Decides.{nat_tests}
use Rattle.std.proofs.lemmas.List.{take_all}
use Rattle.std.specs.List.{position, position_or_len, list_all, slice_get}
use Rattle.muck_model.specs.Bytes.{is_outside, fault_of_bytes, text_fault, text_most}
use Rattle.muck_links.specs.declared.cutter.Mode.TheVariants.{Plain, Command}
use Rattle.muck_links.specs.Lines.{is_shown_byte, bare_bytes, onto_first, line_pieces, only_shown, line_most, text as shown_text, lines}
use Rattle.muck_links.specs.inner.Cutting.{Cut, fresh, fed}
use Rattle.muck_links.proofs.Cuts.{lines_append, cut_is_lines}
use Rattle.muck_script.specs.Script.{line_of}
use Rattle.muck_script.specs.inner.Plain.{is_plain}

-- A plain text is a text.

inside : (b : ℕ) → is_shown_byte b ≡ true → is_outside b ≡ false
inside b e = grind (arith, nat_tests)

none_outside : (text : List ℕ) → list_all is_shown_byte text ≡ true → position_or_len is_outside text ≡ length text
none_outside [] e = refl
none_outside (b ∷ text) e =
    let parts = and_parts (is_shown_byte b) (list_all is_shown_byte text) e in
    cond-true _ _ _ (ap not (inside b parts.0)) ∙ omega (arith, none_outside text parts.1)

no_position : (text : List ℕ) → list_all is_shown_byte text ≡ true → position is_outside text ≡ None
no_position text e = cond-false (ltb (position_or_len is_outside text) (length text)) _ _ (le-ltb _ _ (omega (arith, none_outside text e)))

pub plain_text : (text : List ℕ) → is_plain text ≡ true → text_fault text ≡ None
unfolding line_most
plain_text text e =
    let parts = and_parts (list_all is_shown_byte text) _ e in
    ap (λ o. fault_of_bytes o (length text)) (no_position text parts.0) ∙ cond-false (ltb text_most (length text)) _ _ (le-ltb _ _ (omega (arith, leb-true (length text) 2048 parts.1)))

-- It comes as it is.

no_command : (b : ℕ) → is_shown_byte b ≡ true → (b == 255) ≡ false
no_command b e = grind (arith, nat_tests)

no_end : (b : ℕ) → is_shown_byte b ≡ true → (b == 10) ≡ false
no_end b e = grind (arith, nat_tests)

bare_shown : (text : List ℕ) → list_all is_shown_byte text ≡ true → bare_bytes Plain (text ++ 10 ∷ []) ≡ text ++ 10 ∷ []
bare_shown [] e = refl
bare_shown (b ∷ text) e =
    let parts = and_parts (is_shown_byte b) (list_all is_shown_byte text) e in
    ap (λ (t : Bool). cond t (bare_bytes (cond t Command Plain) (text ++ 10 ∷ [])) (b ∷ bare_bytes (cond t Command Plain) (text ++ 10 ∷ []))) (no_command b parts.0)
    ∙ ap (λ (bs : List ℕ). b ∷ bs) (bare_shown text parts.1)

pieces_shown : (text : List ℕ) → list_all is_shown_byte text ≡ true → line_pieces (text ++ 10 ∷ []) ≡ text ∷ []
pieces_shown [] e = refl
pieces_shown (b ∷ text) e =
    let parts = and_parts (is_shown_byte b) (list_all is_shown_byte text) e in
    cond-false _ _ _ (no_end b parts.0) ∙ ap (onto_first b) (pieces_shown text parts.1)

all_shown : (text : List ℕ) → list_all is_shown_byte text ≡ true → only_shown text ≡ text
all_shown [] e = refl
all_shown (b ∷ text) e =
    let parts = and_parts (is_shown_byte b) (list_all is_shown_byte text) e in
    cond-true _ _ _ parts.0 ∙ ap (λ (bs : List ℕ). b ∷ bs) (all_shown text parts.1)

pub plain_line : (text : List ℕ) → is_plain text ≡ true → line_of text ≡ Some text
unfolding lines
plain_line text e =
    let parts = and_parts (list_all is_shown_byte text) _ e in
    ap (λ (bs : List ℕ). slice_get (map shown_text (line_pieces bs)) 0) (bare_shown text parts.0)
    ∙ ap (λ (ps : List (List ℕ)). slice_get (map shown_text ps) 0) (pieces_shown text parts.0)
    ∙ ap (λ (bs : List ℕ). Some (take line_most bs)) (all_shown text parts.0)
    ∙ ap (λ (bs : List ℕ). Some bs) (take_all line_most text (leb-true (length text) line_most parts.1))

-- What a cutter has that was fed a text and byte 10.

pub cut_text : (text : List ℕ) (first second last : Cut) → first ≡ record { ready = []; rest = fresh } → second ≡ fed first text → last ≡ fed second (10 ∷ []) →
    last.ready ≡ lines (text ++ 10 ∷ [])
cut_text text first second last a b c = rw (c, b, a) (sym (lines_append fresh text (10 ∷ [])) ∙ cut_is_lines (text ++ 10 ∷ []))

pub first_ready : (text : List ℕ) (line : Option (List ℕ)) (ready others : List (List ℕ)) (A B : Type 0) → ready ≡ lines (text ++ 10 ∷ []) →
    MatchOption line ((ready ≡ []) × A) (λ l. (ready ≡ l ∷ others) × B) → line ≡ line_of text
first_ready text None ready others A B is m = sym (ap (λ (ls : List (List ℕ)). slice_get ls 0) (sym is ∙ m.0))
first_ready text (Some l) ready others A B is m = sym (ap (λ (ls : List (List ℕ)). slice_get ls 0) (sym is ∙ m.0))
