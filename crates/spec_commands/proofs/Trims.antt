-- Texts without the spaces at their end.
use Rattle.std.proofs.Common.{◌≡◌, ℕ, true, false, List, [], ◌∷◌, ◌++◌, refl, ◌∙◌, ap}
use Rattle.std.proofs.lemmas.Bool.{cond-true, cond-false}
use Rattle.spec_commands.specs.Texts.{is_space, before_trimmed, end_trimmed}

-- a space at the end goes
pub end_trimmed-space : (b : ℕ) (text : List ℕ) → is_space b ≡ true → end_trimmed (text ++ b ∷ []) ≡ end_trimmed text
end_trimmed-space b [] e = cond-true _ _ _ e
end_trimmed-space b (c ∷ text) e = ap (before_trimmed c) (end_trimmed-space b text e)

before_other : (c b : ℕ) (text : List ℕ) → before_trimmed c (text ++ b ∷ []) ≡ c ∷ text ++ b ∷ []
before_other c b [] = refl
before_other c b (x ∷ text) = refl

-- where another byte stands at the end, nothing goes
pub end_trimmed-other : (b : ℕ) (text : List ℕ) → is_space b ≡ false → end_trimmed (text ++ b ∷ []) ≡ text ++ b ∷ []
end_trimmed-other b [] e = cond-false _ _ _ e
end_trimmed-other b (c ∷ text) e = ap (before_trimmed c) (end_trimmed-other b text e) ∙ before_other c b text
