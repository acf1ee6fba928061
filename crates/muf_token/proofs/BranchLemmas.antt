-- The list of conditionals, from its other end.
use Rattle.std.proofs.Common.{◌≡◌, List, [], ◌∷◌, ◌++◌, reverse, Some, refl, ap, ◌∙◌}
use Rattle.std.proofs.lemmas.List.{reverse-append}
use Rattle.muf_token.specs.declared.branch.Branch.{Branch}
use Rattle.muf_token.specs.Branches.{outermost}

pub reverse_more : (xs : List Branch) (x : Branch) → reverse (xs ++ x ∷ []) ≡ x ∷ reverse xs
reverse_more xs x = reverse-append xs (x ∷ [])

pub outermost_last : (xs : List Branch) (x : Branch) → outermost (xs ++ x ∷ []) ≡ Some x.line
outermost_last [] x = refl
outermost_last (y ∷ []) x = refl
outermost_last (y ∷ z ∷ xs) x = outermost_last (z ∷ xs) x

pub outermost_first : (items : List Branch) (x : Branch) (rest : List Branch) → items ≡ x ∷ rest → outermost (reverse items) ≡ Some x.line
outermost_first items x rest e = ap (λ list. outermost (reverse list)) e ∙ ap outermost (reverse-append (x ∷ []) rest) ∙ outermost_last (reverse rest) x

pub ruleset branches = (reverse_more, outermost_first)
