-- A line so far is a text, and stays one with each byte that joins it.
use Rattle.std.proofs.Common.{◌≡◌, ℕ, ◌+◌, ◌<◌, ◌≤◌, true, false, not, cond, List, [], ◌∷◌, ◌++◌, length, length-append, Some, None, Err, refl, ap, ◌∙◌, arith, ltb-true}
use Rattle.std.specs.Prelude.{◌&&◌, ◌||◌, ◌==◌, nat_lt, nat_le, if◌then◌else◌}
use Rattle.std.specs.List.{position_or_len}
use Rattle.muck_laws.proofs.Numbers.{not_less}
use Rattle.muck_laws.proofs.Options.{no_both}
use Rattle.muck_laws.proofs.Truths.{and_first, and_rest}
use Rattle.muck_model.specs.Bytes.{is_outside, text_fault, text_most}
use Rattle.muck_model.specs.Bytes as model
use Rattle.muck_model.specs.inner.Text.{IsTextOrFault}
use Rattle.muck_model.specs.declared.line.LineFault.{LineFault}
use Rattle.muck_model.specs.declared.line.LineFault.TheVariants.{NotLine, NoMemory}
use Rattle.muck_links.specs.declared.cutter.Mode.{Mode}
use Rattle.muck_links.specs.declared.cutter.Mode.TheVariants.{Plain, Command, Choice, Inside, Ending}
use Rattle.muck_links.specs.Lines.{is_shown_byte, line_most}
use Rattle.muck_links.specs.inner.Cutting.{joins, AllShown, IsLineSoFar}

-- ---- one byte more

shown_more : (line : List ℕ) (b : ℕ) → AllShown line → is_shown_byte b ≡ true → AllShown (line ++ b ∷ [])
shown_more [] b all shown = (shown, tt)
shown_more (x ∷ xs) b all shown = (all.0, shown_more xs b all.1 shown)

pub line_more : (mode : Mode) (b : ℕ) (line : List ℕ) → IsLineSoFar line → joins mode b line ≡ true → IsLineSoFar (line ++ b ∷ [])
line_more Plain b line so_far joined =
    let room : length line < line_most = ltb-true (length line) line_most (and_rest (is_shown_byte b) (nat_lt (length line) line_most) joined) in
    (shown_more line b so_far.0 (and_first (is_shown_byte b) (nat_lt (length line) line_most) joined), omega (arith, room, length-append line (b ∷ [])))
line_more Command b line so_far joined = cc
line_more Choice b line so_far joined = cc
line_more Inside b line so_far joined = cc
line_more Ending b line so_far joined = cc

-- ---- a line so far is a text

is_inside : (b : ℕ) → is_shown_byte b ≡ true → is_outside b ≡ false
is_inside b h =
    ap (λ t. (t || nat_lt 126 b) && not (b == 13)) (not_less b 32 (and_first (nat_le 32 b) (nat_le b 126) h))
    ∙ ap (λ t. t && not (b == 13)) (not_less 126 b (and_rest (nat_le 32 b) (nat_le b 126) h))

none_outside : (bs : List ℕ) → AllShown bs → position_or_len is_outside bs ≡ length bs
none_outside [] h = refl
none_outside (b ∷ bs) h = ap (λ t. cond (not t) (1 + position_or_len is_outside bs) 0) (is_inside b h.0) ∙ omega (arith, none_outside bs h.1)

line_is_text : (line : List ℕ) → IsLineSoFar line → text_fault line ≡ None
unfolding line_most
line_is_text line h =
    ap (λ t. model.fault_of_bytes (cond t (Some (position_or_len is_outside line)) None) (length line)) (not_below _ _ (none_outside line h.0))
    ∙ ap (λ t. if t then Some text_most else None) (not_above (length line) text_most (omega (arith, h.1)))
  where
    not_below : (n most : ℕ) → n ≡ most → nat_lt n most ≡ false
    not_below n most e = grind arith

    not_above : (n most : ℕ) → n ≤ most → nat_lt most n ≡ false
    not_above n most le = grind arith

-- a line so far is never refused
pub never_refused : (line : List ℕ) (fault : LineFault) → IsLineSoFar line → IsTextOrFault line (Err fault) → ⊥
never_refused line (NotLine at) so_far h = no_both (text_fault line) at (line_is_text line so_far) h
never_refused line NoMemory so_far h = h
