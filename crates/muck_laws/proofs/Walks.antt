-- What is made step by step.
use Rattle.std.proofs.Common.{List, [], ap, arith, length, length-append, refl, replicate, take, take_all, ℕ, ◌++◌, ◌+◌, ◌-◌, ◌∙◌, ◌∷◌, ◌≡◌, ◌≤◌}
use Rattle.std.specs.List.{AppendsResults, FoldsTo}

-- results that are all the same
pub same_results : {F X : Type 0} (step : F → X → F → Type 0) (x : X) → ((f : F) (y : X) (g : F) → step f y g → y ≡ x) → (ys : List X) (f g : F) → FoldsTo step f ys g → ys ≡ replicate (length ys) x
same_results step x same [] f g h = refl
same_results step x same (y ∷ ys) f g h = ap (λ z. z ∷ ys) (same f y h.0 h.1) ∙ ap (λ zs. x ∷ zs) (same_results step x same ys h.0 g h.2)

-- a list that was filled up with the results of calls, which are all the same
pub filled_up : {F X : Type 0} (step : F → X → F → Type 0) (x : X) (n : ℕ) (old new : List X) (f : F) → ((f : F) (y : X) (g : F) → step f y g → y ≡ x) → length old ≤ n → length new ≡ n → AppendsResults step (take n old) new f → new ≡ old ++ replicate (n - length old) x
filled_up step x n old new f same le len h =
    let whole : take n old ≡ old = take_all n old le in
    let is : new ≡ old ++ h.0 = h.2 ∙ ap (λ xs. xs ++ h.0) whole in
    let total : length new ≡ length old + length h.0 = ap length is ∙ length-append old h.0 in
    let count : length h.0 ≡ n - length old = omega (arith, total, len) in
    is ∙ ap (λ ys. old ++ ys) (same_results step x same h.0 f h.1 h.3 ∙ ap (λ k. replicate k x) count)
