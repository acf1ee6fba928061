-- Texts cut into pieces, one piece after another.
use Rattle.std.proofs.Common.{◌≡◌, ℕ, zero, suc, ◌+◌, ◌-◌, ◌<◌, ◌≤◌, true, List, [], ◌∷◌, ◌++◌, Some, None, length, take, drop, refl, sym, ap, ◌∙◌, arith, ⊎_elim, length-drop}
use Rattle.std.proofs.lemmas.Bool.{cases_Bool, cond-true, cond-false, and_parts, leb-true}
use Rattle.std.proofs.lemmas.List.{append_assoc}
use Rattle.muck_laws.proofs.Options.{or_none}
use Rattle.muf_model.specs.Texts.{text_stands_at, first_from, first_place, cut_at, text_cut, text_pieces, texts_joined}

fits_from : (t s : List ℕ) (n k j : ℕ) → first_from t s k n ≡ Some j → j + length t ≤ length s
fits_from t s zero k j h = absurd (let e : None ≡ Some j = h in cc)
fits_from t s (suc n) k j h =
    ⊎_elim
    (λ e.
    let here : Some k ≡ Some j = sym (cond-true _ _ _ e) ∙ h in
    let same : k ≡ j = cc in
    let fits : k + length t ≤ length s = leb-true _ _ (and_parts _ _ e).0 in
    omega arith)
    (λ e. fits_from t s n (k + 1) j (sym (cond-false _ _ _ e) ∙ h))
    (cases_Bool (text_stands_at t s k))

pub first_fits : (t s : List ℕ) (k : ℕ) → first_place t s ≡ Some k → k + length t ≤ length s
unfolding first_place
first_fits t s k h = fits_from t s (length s + 1) 0 k h

nowhere : (t s : List ℕ) → 0 < length t → length s ≤ 0 → first_place t s ≡ None
nowhere t s p a = ⊎_elim (λ e. e) (λ h. absurd (let f = first_fits t s h.0 h.1 in omega arith)) (or_none (first_place t s))

-- so many cuts are enough
cut_enough : (n m : ℕ) (t s : List ℕ) → 0 < length t → length s ≤ n → length s ≤ m → text_cut n t s ≡ text_cut m t s
unfolding text_cut
cut_enough zero zero t s p a b = refl
cut_enough zero (suc m) t s p a b = sym (ap (cut_at t s (text_cut m t)) (nowhere t s p a))
cut_enough (suc n) zero t s p a b = ap (cut_at t s (text_cut n t)) (nowhere t s p b)
cut_enough (suc n) (suc m) t s p a b =
    ⊎_elim
    (λ e. ap (cut_at t s (text_cut n t)) e ∙ sym (ap (cut_at t s (text_cut m t)) e))
    (λ h.
    let fits = first_fits t s h.0 h.1 in
    let rest = length-drop (h.0 + length t) s in
    ap (cut_at t s (text_cut n t)) h.1
    ∙ ap (λ r. take h.0 s ∷ r) (cut_enough n m t (drop (h.0 + length t) s) p (omega arith) (omega arith))
    ∙ sym (ap (cut_at t s (text_cut m t)) h.1))
    (or_none (first_place t s))

cut_last : (n : ℕ) (t s : List ℕ) → first_place t s ≡ None → text_cut n t s ≡ s ∷ []
unfolding text_cut
cut_last zero t s e = refl
cut_last (suc n) t s e = ap (cut_at t s (text_cut n t)) e

pub pieces_last : (t s : List ℕ) → first_place t s ≡ None → text_pieces t s ≡ s ∷ []
pieces_last t s e = cut_last (length s) t s e

cut_more : (n : ℕ) (t s : List ℕ) (k : ℕ) → 0 < length t → length s ≤ n → first_place t s ≡ Some k → text_cut n t s ≡ take k s ∷ text_pieces t (drop (k + length t) s)
unfolding text_cut
cut_more zero t s k p le e = absurd (let fits = first_fits t s k e in omega arith)
cut_more (suc n) t s k p le e =
    let fits = first_fits t s k e in
    let rest = length-drop (k + length t) s in
    ap (cut_at t s (text_cut n t)) e
    ∙ ap (λ r. take k s ∷ r) (cut_enough n (length (drop (k + length t) s)) t (drop (k + length t) s) p (omega arith) (omega arith))

pub pieces_more : (t s : List ℕ) (k : ℕ) → 0 < length t → first_place t s ≡ Some k → text_pieces t s ≡ take k s ∷ text_pieces t (drop (k + length t) s)
pieces_more t s k p e = cut_more (length s) t s k p (omega arith) e

-- there is always a last piece
joined_cut : (u p : List ℕ) (n : ℕ) (t s : List ℕ) → texts_joined u (p ∷ text_cut n t s) ≡ p ++ (u ++ texts_joined u (text_cut n t s))
unfolding text_cut
joined_cut u p zero t s = refl
joined_cut u p (suc n) t s =
    ⊎_elim
    (λ e. ap (λ o. texts_joined u (p ∷ cut_at t s (text_cut n t) o)) e ∙ sym (ap (λ o. p ++ (u ++ texts_joined u (cut_at t s (text_cut n t) o))) e))
    (λ h. ap (λ o. texts_joined u (p ∷ cut_at t s (text_cut n t) o)) h.1 ∙ sym (ap (λ o. p ++ (u ++ texts_joined u (cut_at t s (text_cut n t) o))) h.1))
    (or_none (first_place t s))

-- a text with another one for each that is sought, by its first piece
pub joined_last : (u t s : List ℕ) → first_place t s ≡ None → texts_joined u (text_pieces t s) ≡ s
joined_last u t s e = ap (texts_joined u) (pieces_last t s e)

pub joined_more : (u t s : List ℕ) (k : ℕ) → 0 < length t → first_place t s ≡ Some k → texts_joined u (text_pieces t s) ≡ take k s ++ (u ++ texts_joined u (text_pieces t (drop (k + length t) s)))
joined_more u t s k p e =
    ap (texts_joined u) (pieces_more t s k p e) ∙ joined_cut u (take k s) (length (drop (k + length t) s)) t (drop (k + length t) s)

-- the same behind what is joined so far
pub joined_further : (made u t s : List ℕ) (k : ℕ) → 0 < length t → first_place t s ≡ Some k → made ++ texts_joined u (text_pieces t s) ≡ ((made ++ take k s) ++ u) ++ texts_joined u (text_pieces t (drop (k + length t) s))
joined_further made u t s k p e =
    let rest = texts_joined u (text_pieces t (drop (k + length t) s)) in
    ap (λ r. made ++ r) (joined_more u t s k p e)
    ∙ sym (append_assoc made (take k s) (u ++ rest))
    ∙ sym (append_assoc (made ++ take k s) u rest)
