-- What a path that continues another is by its length and its first segments.
use Rattle.std.proofs.Common.{◌≡◌, ℕ, ◌<◌, ◌≤◌, Bool, true, false, ◌&&◌, List, [], ◌∷◌, length, take, bytes_eq, refl, ap, ◌∙◌, arith}
use Rattle.muck_prop.specs.Order.{is_below, path_eq}

pub below_by_start : (p q : List (List ℕ)) → length p < length q → path_eq p (take (length p) q) ≡ is_below p q
below_by_start [] [] h = absurd (omega arith)
below_by_start [] (t ∷ q) h = refl
below_by_start (s ∷ p) [] h = absurd (omega arith)
below_by_start (s ∷ p) (t ∷ q) h = ap (λ b. bytes_eq s t && b) (below_by_start p q (omega arith))

pub below_is_longer : (p q : List (List ℕ)) → length q ≤ length p → is_below p q ≡ false
below_is_longer [] [] h = refl
below_is_longer [] (t ∷ q) h = absurd (omega arith)
below_is_longer (s ∷ p) [] h = refl
below_is_longer (s ∷ p) (t ∷ q) h = ap (λ b. bytes_eq s t && b) (below_is_longer p q (omega arith)) ∙ and_false (bytes_eq s t)
  where
    and_false : (b : Bool) → (b && false) ≡ false
    and_false true = refl
    and_false false = refl
