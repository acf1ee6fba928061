-- The first body of a file.
use Rattle.std.proofs.Common.{◌≡◌, ℕ, suc, ◌+◌, ◌<◌, ◌≤◌, ◌≢◌, eqb, leb, List, [], ◌∷◌, length, take, drop, get_or, refl, sym, ◌∙◌, ap, arith, length-drop}
use Rattle.std.proofs.lemmas.List.{drop-drop}
use Rattle.std.proofs.lemmas.Bool.{cond-true, cond-false, eq-eqb, ne_eqb, le-leb, lt-leb}
use Rattle.std.specs.Int.{w64, from_be_bytes}
use Rattle.muck_laws.proofs.Lists.{nil_either_way}
use Rattle.muck_bodies.specs.Bodies.{bodies_up_to}

-- there is none where the file is too short, or its gate isn't open
pub first_short : (file : List ℕ) → length file < 9 → (n : ℕ) → bodies_up_to (suc n) file ≡ []
unfolding bodies_up_to
first_short [] short n = refl
first_short (g ∷ []) short n = refl
first_short (g ∷ x ∷ rest) short n =
    let size = from_be_bytes w64 (take 8 (x ∷ rest)) in
    nil_either_way (eqb g 1) _ (cond-false (leb (8 + size) (length (x ∷ rest))) _ _ (lt-leb (8 + size) (length (x ∷ rest)) (omega (arith, short))))

pub first_shut : (file : List ℕ) (d : ℕ) → get_or file 0 d ≢ 1 → (n : ℕ) → bodies_up_to (suc n) file ≡ []
unfolding bodies_up_to
first_shut [] d shut n = refl
first_shut (g ∷ []) d shut n = refl
first_shut (g ∷ x ∷ rest) d shut n = cond-false (eqb g 1) _ _ (ne_eqb g 1 shut)

-- nor where the body isn't whole
pub first_cut : (file : List ℕ) → length (drop 8 (drop 1 file)) < from_be_bytes w64 (take 8 (drop 1 file)) → (n : ℕ) → bodies_up_to (suc n) file ≡ []
unfolding bodies_up_to
first_cut [] cut n = refl
first_cut (g ∷ []) cut n = refl
first_cut (g ∷ x ∷ rest) cut n =
    let size = from_be_bytes w64 (take 8 (x ∷ rest)) in
    nil_either_way (eqb g 1) _ (cond-false (leb (8 + size) (length (x ∷ rest))) _ _ (lt-leb (8 + size) (length (x ∷ rest)) (omega (arith, cut, length-drop 8 (x ∷ rest)))))

pub first_whole : (file : List ℕ) (d : ℕ) → get_or file 0 d ≡ 1 → 9 ≤ length file → from_be_bytes w64 (take 8 (drop 1 file)) ≤ length (drop 8 (drop 1 file)) → (n : ℕ)
    → bodies_up_to (suc n) file ≡ take (from_be_bytes w64 (take 8 (drop 1 file))) (drop 8 (drop 1 file)) ∷ bodies_up_to n (drop (from_be_bytes w64 (take 8 (drop 1 file))) (drop 8 (drop 1 file)))
unfolding bodies_up_to
first_whole [] d open_ long whole n = absurd (omega (arith, long))
first_whole (g ∷ []) d open_ long whole n = absurd (omega (arith, long))
first_whole (g ∷ x ∷ rest) d open_ long whole n =
    let size = from_be_bytes w64 (take 8 (x ∷ rest)) in
    cond-true (eqb g 1) _ _ (eq-eqb g 1 open_) ∙ cond-true (leb (8 + size) (length (x ∷ rest))) _ _ (le-leb (8 + size) (length (x ∷ rest)) (omega (arith, whole, long, length-drop 8 (x ∷ rest))))
    ∙ ap (λ l. take size (drop 8 (x ∷ rest)) ∷ bodies_up_to n l) (sym (drop-drop size 8 (x ∷ rest)))
