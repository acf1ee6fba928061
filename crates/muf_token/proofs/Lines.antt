-- Where a line ends.
use Rattle.std.proofs.Common.{◌≡◌, ℕ, ◌+◌, true, not, cond, List, [], ◌∷◌, ◌++◌, length, take, drop, refl, ap, ◌∙◌, arith}
use Rattle.std.specs.List.{position_or_len}
use Rattle.muck_laws.proofs.Parts.{drop_front, take_front}
use Rattle.muf_token.specs.inner.Bytes.{are_inside}
use Rattle.muf_token.specs.Pieces.{lines_below}
use Rattle.muf_token.specs.Directives.{is_line_end, rest_of_line}
use Rattle.muf_token.proofs.Texts.{inside_head, inside_tail}
use Rattle.muf_token.proofs.Quotes.{no_line_end}

end_after : (here : List ℕ) (lines : List (List ℕ)) → are_inside here ≡ true → position_or_len is_line_end (here ++ lines_below lines) ≡ length here
end_after [] [] h = refl
end_after [] (line ∷ lines) h = refl
end_after (b ∷ here) lines h =
    ap (λ v. cond (not v) (1 + position_or_len is_line_end (here ++ lines_below lines)) 0) (no_line_end b (inside_head b here h))
    ∙ ap (λ n. 1 + n) (end_after here lines (inside_tail b here h)) ∙ omega arith

pub rest_here : (here : List ℕ) (lines : List (List ℕ)) → are_inside here ≡ true → rest_of_line (here ++ lines_below lines) ≡ here
rest_here here lines h = ap (λ n. take n (here ++ lines_below lines)) (end_after here lines h) ∙ take_front here (lines_below lines)

pub end_here : (here : List ℕ) (lines : List (List ℕ)) → are_inside here ≡ true → drop (position_or_len is_line_end (here ++ lines_below lines)) (here ++ lines_below lines) ≡ lines_below lines
end_here here lines h = ap (λ n. drop n (here ++ lines_below lines)) (end_after here lines h) ∙ drop_front here (lines_below lines)

pub ruleset line_ends = (rest_here, end_here)
