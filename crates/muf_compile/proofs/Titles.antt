-- Names of words that have a header.
use Rattle.std.proofs.Common.{◌≡◌, ℕ, ◌+◌, ◌≤◌, Bool, true, false, cond, List, [], ◌∷◌, ◌++◌, length, Option, Some, None, refl, ap, arith, length-append, subst, ◌∙◌}
use Rattle.std.specs.Prelude.{option_map, ◌==◌}
use Rattle.std.proofs.lemmas.Bool.Decides.{Decides-eqb}
use Rattle.muck_laws.proofs.Lists.{cond_mapped}
use Rattle.muck_model.specs.Bytes.{text_fault, text_most}
use Rattle.muf_token.specs.inner.Bytes.{are_inside}
use Rattle.muf_token.proofs.Texts.{inside_text, text_inside, inside_head, inside_tail, inside_cons}
use Rattle.muf_compile.specs.Reading.{before_bracket}

bracket_end : (name : List ℕ) (b : ℕ) → before_bracket (name ++ b ∷ []) ≡ cond (b == 91) (Some name) None
bracket_end [] b = refl
bracket_end (a ∷ []) b = cond_mapped a (b == 91) []
bracket_end (a ∷ c ∷ name) b = rw (bracket_end (c ∷ name) b) (cond_mapped a (b == 91) (c ∷ name))

pub bracket_yes : (word name : List ℕ) → word ≡ name ++ 91 ∷ [] → before_bracket word ≡ Some name
bracket_yes word name e = rw (e, bracket_end name 91) refl

pub bracket_no : (word name : List ℕ) (b : ℕ) → word ≡ name ++ b ∷ [] → (b == 91) ≡ false → before_bracket word ≡ None
bracket_no word name b e n = rw (e, bracket_end name b, n) refl

pub bracket_none : (word : List ℕ) → length word ≡ 0 → before_bracket word ≡ None
bracket_none [] e = refl
bracket_none (b ∷ word) e = absurd (omega arith)

-- what is found before a last `[` is all but that
pub bracket_found : (word name : List ℕ) → before_bracket word ≡ Some name → word ≡ name ++ 91 ∷ []
bracket_found [] name e = cc
bracket_found (b ∷ []) name e = by (b == 91) refl e
  where
    by : (t : Bool) → (b == 91) ≡ t → cond t (Some []) None ≡ Some name → b ∷ [] ≡ name ++ 91 ∷ []
    by true t e = let h : [] ≡ name = cc in let i : b ≡ 91 = (Decides-eqb b 91).0 t in rw (← h, i) refl
    by false t e = cc
bracket_found (b ∷ c ∷ bytes) name e = by (before_bracket (c ∷ bytes)) (bracket_found (c ∷ bytes)) e
  where
    by : (r : Option (List ℕ)) → ((front : List ℕ) → r ≡ Some front → c ∷ bytes ≡ front ++ 91 ∷ []) → option_map (λ rest. b ∷ rest) r ≡ Some name → b ∷ c ∷ bytes ≡ name ++ 91 ∷ []
    by (Some front) h e = let i : b ∷ front ≡ name = cc in rw (← i) (ap (λ l. b ∷ l) (h front refl))
    by None h e = cc

inside_front : (xs ys : List ℕ) → are_inside (xs ++ ys) ≡ true → are_inside xs ≡ true
inside_front [] ys h = refl
inside_front (b ∷ xs) ys h = inside_cons b xs (inside_head b (xs ++ ys) h) (inside_front xs ys (inside_tail b (xs ++ ys) h))

-- the front of a text is a text
pub text_front : (word name : List ℕ) (b : ℕ) → word ≡ name ++ b ∷ [] → text_fault word ≡ None → length word ≤ text_most → text_fault name ≡ None
text_front word name b e h l =
    let i : are_inside word ≡ true = inside_text word h in
    let j : are_inside (name ++ b ∷ []) ≡ true = subst (λ w. are_inside w ≡ true) e i in
    let n : length word ≡ length name + 1 = ap length e ∙ length-append name (b ∷ []) in
    text_inside name (inside_front name (b ∷ []) j) (omega arith)

pub ruleset titles = (bracket_yes, bracket_no, bracket_none, text_front)
