-- Lists of which each byte passes a test.
use Rattle.std.proofs.Common.{◌≡◌, ℕ, ◌+◌, zero, suc, Bool, true, false, cond, List, [], ◌∷◌, ◌++◌, length, take, drop, refl, sym, subst, arith}
use Rattle.std.specs.List.{list_all, prefix_len}
use Rattle.muck_laws.proofs.Truths.{and_first, and_rest}

abbrev pub Passes : (ℕ → Bool) → List ℕ → Type 0
Passes q xs = prefix_len q xs ≡ length xs

pub passes-parts : (q : ℕ → Bool) (b : ℕ) (xs : List ℕ) → Passes q (b ∷ xs) → (q b ≡ true) × Passes q xs
passes-parts q b xs = elim (q b) as (λ t. cond t (1 + prefix_len q xs) 0 ≡ suc (length xs) → (t ≡ true) × (prefix_len q xs ≡ length xs)) [
  | true ↦ λ h. (refl, omega (arith, h))
  | false ↦ λ h. absurd (omega (arith, h))
]

pub passes-more : (q : ℕ → Bool) (b : ℕ) (xs : List ℕ) → q b ≡ true → Passes q xs → Passes q (b ∷ xs)
passes-more q b xs first rest = rw first (omega (arith, rest))

pub passes-append : (q : ℕ → Bool) (xs ys : List ℕ) → Passes q xs → Passes q ys → Passes q (xs ++ ys)
passes-append q [] ys hx hy = hy
passes-append q (b ∷ xs) ys hx hy = let p = passes-parts q b xs hx in passes-more q b (xs ++ ys) p.0 (passes-append q xs ys p.1 hy)

pub passes-take : (q : ℕ → Bool) (n : ℕ) (xs : List ℕ) → Passes q xs → Passes q (take n xs)
passes-take q zero xs h = refl
passes-take q (suc n) [] h = refl
passes-take q (suc n) (b ∷ xs) h = let p = passes-parts q b xs h in passes-more q b (take n xs) p.0 (passes-take q n xs p.1)

pub passes-drop : (q : ℕ → Bool) (n : ℕ) (xs : List ℕ) → Passes q xs → Passes q (drop n xs)
passes-drop q zero xs h = h
passes-drop q (suc n) [] h = refl
passes-drop q (suc n) (b ∷ xs) h = passes-drop q n xs (passes-parts q b xs h).1

front_at : (q : ℕ → Bool) (b : ℕ) (xs : List ℕ) (t : Bool) → q b ≡ t → Passes q (take (prefix_len q xs) xs) → Passes q (take (cond t (1 + prefix_len q xs) 0) (b ∷ xs))
front_at q b xs true e h =
    let n : 1 + prefix_len q xs ≡ suc (prefix_len q xs) = omega arith in
    subst (λ k. Passes q (take k (b ∷ xs))) (sym n) (passes-more q b (take (prefix_len q xs) xs) e h)
front_at q b xs false e h = refl

-- what stands before the first that fails
pub passes-front : (q : ℕ → Bool) (xs : List ℕ) → Passes q (take (prefix_len q xs) xs)
passes-front q [] = refl
passes-front q (b ∷ xs) = front_at q b xs (q b) refl (passes-front q xs)

-- the first that fails stands behind those that pass
pub prefix-stops : (q : ℕ → Bool) (xs : List ℕ) (b : ℕ) (ys : List ℕ) → Passes q xs → q b ≡ false → prefix_len q (xs ++ b ∷ ys) ≡ length xs
prefix-stops q [] b ys h stop = rw stop refl
prefix-stops q (x ∷ xs) b ys h stop = let p = passes-parts q x xs h in rw p.0 (let e = prefix-stops q xs b ys p.1 stop in omega (arith, e))

pub passes-all : (p q : ℕ → Bool) (xs : List ℕ) → ((b : ℕ) → p b ≡ true → q b ≡ true) → list_all p xs ≡ true → Passes q xs
passes-all p q [] so h = refl
passes-all p q (b ∷ xs) so h = passes-more q b xs (so b (and_first (p b) (list_all p xs) h)) (passes-all p q xs so (and_rest (p b) (list_all p xs) h))
