-- Texts between quotes.
use Rattle.std.proofs.Common.{◌≡◌, ℕ, Bool, true, false, not, eqb, List, [], ◌∷◌, ◌++◌, length, Option, Some, None, refl, ap, sym, ◌∙◌, arith, append_assoc}
use Rattle.std.proofs.lemmas.Bool.Decides.{nat_tests}
use Rattle.std.specs.Option.{option_map}
use Rattle.muck_model.specs.Bytes.{is_outside}
use Rattle.muf_token.specs.inner.Bytes.{are_inside}
use Rattle.muf_token.specs.Pieces.{quoted, lines_below, after_byte, escaped_byte}
use Rattle.muf_token.proofs.Texts.{inside_append, inside_cons, inside_head, inside_tail}

-- these bytes before those of a text between quotes
abbrev pub after_bytes : List ℕ → Option (List ℕ × List ℕ) → Option (List ℕ × List ℕ)
after_bytes value rest = option_map (λ p. (value ++ p.0, p.1)) rest

pub after_more : (value : List ℕ) (b : ℕ) (rest : Option (List ℕ × List ℕ)) → after_bytes (value ++ b ∷ []) rest ≡ after_bytes value (after_byte b rest)
after_more value b None = refl
after_more value b (Some p) = ap (λ bytes. Some (bytes, p.1)) (append_assoc value (b ∷ []) p.0)

pub after_none : (rest : Option (List ℕ × List ℕ)) → after_bytes [] rest ≡ rest
after_none None = refl
after_none (Some p) = refl

-- where the line ends, a text that is open has no end
pub quoted_end : (escaped : Bool) (lines : List (List ℕ)) → quoted escaped (lines_below lines) ≡ None
quoted_end true [] = refl
quoted_end false [] = refl
quoted_end true (line ∷ lines) = refl
quoted_end false (line ∷ lines) = refl

-- a byte of a text ends no line
pub no_line_end : (b : ℕ) → not (is_outside b) ≡ true → eqb b 10 ≡ false
no_line_end b h = grind (arith, nat_tests)

-- one byte more was read, behind a backslash
pub escaped_step : (value : List ℕ) (b : ℕ) (text : List ℕ) (whole : Option (List ℕ × List ℕ)) → not (is_outside b) ≡ true
    → after_bytes value (quoted true (b ∷ text)) ≡ whole → after_bytes (value ++ escaped_byte b ∷ []) (quoted false text) ≡ whole
escaped_step value b text whole inside h =
    after_more value (escaped_byte b) (quoted false text) ∙ (rw (no_line_end b inside) at h)

-- one byte more was read, which is no backslash and no quote
pub plain_step : (value : List ℕ) (b : ℕ) (text : List ℕ) (whole : Option (List ℕ × List ℕ)) → not (is_outside b) ≡ true → eqb b 34 ≡ false → eqb b 92 ≡ false
    → after_bytes value (quoted false (b ∷ text)) ≡ whole → after_bytes (value ++ b ∷ []) (quoted false text) ≡ whole
plain_step value b text whole inside quote slash h =
    after_more value b (quoted false text) ∙ (rw (no_line_end b inside, quote, slash) at h)

-- the line ended
pub open_end : (value : List ℕ) (escaped : Bool) (here : List ℕ) (lines : List (List ℕ)) (whole : Option (List ℕ × List ℕ)) → length here ≡ 0
    → after_bytes value (quoted escaped (here ++ lines_below lines)) ≡ whole → whole ≡ None
open_end value escaped [] lines whole none h = sym h ∙ ap (after_bytes value) (quoted_end escaped lines)
open_end value escaped (b ∷ here) lines whole none h = absurd (omega (arith, none))

pub escaped_inside : (b : ℕ) → not (is_outside b) ≡ true → not (is_outside (escaped_byte b)) ≡ true
escaped_inside b h = grind (arith, nat_tests)

pub inside_more : (value : List ℕ) (b : ℕ) → are_inside value ≡ true → not (is_outside b) ≡ true → are_inside (value ++ b ∷ []) ≡ true
inside_more value b h k = inside_append value (b ∷ []) h (inside_cons b [] k refl)

pub ruleset quotes = (after_none, escaped_step, plain_step, escaped_inside, inside_more, inside_head, inside_tail)
