-- Two lists, item by item.
use Rattle.std.specs.Prelude.{List, [], ◌∷◌}

-- of one length, and each item of the one against that of the other
abbrev pub All2 : {A B : Type 0} → (A → B → Type 0) → List A → List B → Type 0
All2 R [] [] = Unit {0}
All2 R (x ∷ xs) (y ∷ ys) = R x y × All2 R xs ys
All2 R [] (y ∷ ys) = ⊥
All2 R (x ∷ xs) [] = ⊥
