-- The text of lines, one behind the other.
use Rattle.std.proofs.Common.{◌≡◌, ℕ, ◌+◌, ◌≤◌, true, List, [], ◌∷◌, ◌++◌, length, drop, sym, ◌∙◌, ap, append_assoc, append-nil, None}
use Rattle.std.specs.Prelude.{◌&&◌, is_none}
use Rattle.std.specs.List.{flat_map}
use Rattle.std.proofs.lemmas.List.{drop_all}
use Rattle.muck_model.specs.Bytes.{text_fault}
use Rattle.muck_debugging.specs.Seen.{line_ended}
use Rattle.muck_debugging.specs.Laws.{are_texts}

pub text_next : (lines : List (List ℕ)) (at : ℕ) (line text all : List ℕ) → drop at lines ≡ line ∷ drop (at + 1) lines → text ++ flat_map line_ended (drop at lines) ≡ all → ((text ++ line) ++ 10 ∷ []) ++ flat_map line_ended (drop (at + 1) lines) ≡ all
text_next lines at line text all next e =
    ap (λ (t : List ℕ). t ++ flat_map line_ended (drop (at + 1) lines)) (append_assoc text line (10 ∷ []))
    ∙ append_assoc text (line ++ 10 ∷ []) (flat_map line_ended (drop (at + 1) lines))
    ∙ ap (λ (ls : List (List ℕ)). text ++ flat_map line_ended ls) (sym next) ∙ e

pub texts_next : (lines : List (List ℕ)) (at : ℕ) (line : List ℕ) → drop at lines ≡ line ∷ drop (at + 1) lines → text_fault line ≡ None → are_texts (drop (at + 1) lines) ≡ true → are_texts (drop at lines) ≡ true
texts_next lines at line next fine e = ap are_texts next ∙ ap (λ f. is_none f && are_texts (drop (at + 1) lines)) fine ∙ e

pub text_all : (lines : List (List ℕ)) (at : ℕ) (text all : List ℕ) → length lines ≤ at → text ++ flat_map line_ended (drop at lines) ≡ all → text ≡ all
text_all lines at text all over e = sym (append-nil text) ∙ ap (λ (ls : List (List ℕ)). text ++ flat_map line_ended ls) (sym (drop_all at lines over)) ∙ e

pub texts_all : (lines : List (List ℕ)) (at : ℕ) → length lines ≤ at → are_texts (drop at lines) ≡ true
texts_all lines at over = ap are_texts (drop_all at lines over)
