-- Steps of the loops.
use Rattle.std.proofs.Common.{◌≡◌, ◌≢◌, ℕ, ◌+◌, ◌-◌, ◌<◌, ◌≤◌, eqb, ltb, List, [], ◌∷◌, ◌++◌, length, take, drop, get_or, Ok, Err, sym, ◌∙◌, ap, arith, length-drop, append_assoc}
use Rattle.std.proofs.lemmas.List.{drop_more, take_more}
use Rattle.std.proofs.Math.ListN.{drop_of_length-le}
use Rattle.std.proofs.lemmas.Bool.{cond-true, cond-false, eq-eqb, ne_eqb, lt-ltb, le-ltb}
use Rattle.muck_mirror.specs.Bodies.{FedBody, literal_at}
use Rattle.muck_mirror.specs.Mirrors.{ahead, bodies_kept_with}

-- Literals.

pub literal_more : (wanted bytes : List ℕ) (i d : ℕ) → i < length wanted → i < length bytes → get_or bytes i d ≡ get_or wanted i d
    → literal_at (drop i wanted) (drop i bytes) ≡ literal_at (drop (i + 1) wanted) (drop (i + 1) bytes)
unfolding literal_at
literal_more wanted bytes i d lt le same =
    ap (λ l. literal_at l (drop i bytes)) (drop_more wanted i d lt) ∙ ap (literal_at (get_or wanted i d ∷ drop (i + 1) wanted)) (drop_more bytes i d le)
    ∙ cond-true (eqb (get_or bytes i d) (get_or wanted i d)) _ _ (eq-eqb _ _ same)

pub literal_other : (wanted bytes : List ℕ) (i d : ℕ) → i < length wanted → i < length bytes → get_or bytes i d ≢ get_or wanted i d
    → literal_at (drop i wanted) (drop i bytes) ≡ Err (length bytes - i)
unfolding literal_at
literal_other wanted bytes i d lt le other =
    ap (λ l. literal_at l (drop i bytes)) (drop_more wanted i d lt) ∙ ap (literal_at (get_or wanted i d ∷ drop (i + 1) wanted)) (drop_more bytes i d le)
    ∙ cond-false (eqb (get_or bytes i d) (get_or wanted i d)) _ _ (ne_eqb _ _ other)
    ∙ ap Err (omega (arith, length-drop (i + 1) bytes))

pub literal_none : (wanted bytes : List ℕ) (i d : ℕ) → i < length wanted → length bytes ≤ i → literal_at (drop i wanted) (drop i bytes) ≡ Err 0
unfolding literal_at
literal_none wanted bytes i d lt le = ap (λ l. literal_at l (drop i bytes)) (drop_more wanted i d lt) ∙ ap (literal_at (get_or wanted i d ∷ drop (i + 1) wanted)) (drop_of_length-le bytes le)

pub literal_end : (wanted bytes : List ℕ) (i : ℕ) → length wanted ≤ i → literal_at (drop i wanted) (drop i bytes) ≡ Ok (drop i bytes)
unfolding literal_at
literal_end wanted bytes i le = ap (λ l. literal_at l (drop i bytes)) (drop_of_length-le wanted le)

-- Kept bodies that follow.

item : (kept : List FedBody) (i : ℕ) (k : FedBody) → i < length kept → k ≡ get_or kept i k → drop i kept ≡ k ∷ drop (i + 1) kept
item kept i k lt is = drop_more kept i k lt ∙ ap (λ x. x ∷ drop (i + 1) kept) (sym is)

-- Where a body stands.

pub place_more : (kept : List FedBody) (i : ℕ) (k b : FedBody) (next : ℕ) → i < length kept → k ≡ get_or kept i k → ahead next k.number < ahead next b.number
    → take i kept ++ bodies_kept_with next b (drop i kept) ≡ take (i + 1) kept ++ bodies_kept_with next b (drop (i + 1) kept)
unfolding bodies_kept_with
place_more kept i k b next lt is near =
    ap (λ l. take i kept ++ l) (ap (bodies_kept_with next b) (item kept i k lt is) ∙ cond-true (ltb (ahead next k.number) (ahead next b.number)) _ _ (lt-ltb _ _ near))
    ∙ sym (append_assoc (take i kept) (k ∷ []) (bodies_kept_with next b (drop (i + 1) kept)))
    ∙ ap (λ l. l ++ bodies_kept_with next b (drop (i + 1) kept)) (ap (λ x. take i kept ++ x ∷ []) is ∙ sym (take_more kept i k lt))

pub place_here : (kept : List FedBody) (i : ℕ) (k b : FedBody) (next : ℕ) → i < length kept → k ≡ get_or kept i k → ahead next b.number ≤ ahead next k.number
    → bodies_kept_with next b (drop i kept) ≡ b ∷ drop i kept
unfolding bodies_kept_with
place_here kept i k b next lt is far =
    ap (bodies_kept_with next b) (item kept i k lt is) ∙ cond-false (ltb (ahead next k.number) (ahead next b.number)) _ _ (le-ltb _ _ far) ∙ ap (λ l. b ∷ l) (sym (item kept i k lt is))

pub place_end : (kept : List FedBody) (i : ℕ) (b : FedBody) (next : ℕ) → length kept ≤ i → bodies_kept_with next b (drop i kept) ≡ b ∷ drop i kept
unfolding bodies_kept_with
place_end kept i b next le = ap (bodies_kept_with next b) (drop_of_length-le kept le) ∙ ap (λ l. b ∷ l) (sym (drop_of_length-le kept le))

-- An item that is seen so.
pub seen_at : (kept : List FedBody) (i : ℕ) (v k : FedBody) → v ≡ k → k ≡ get_or kept i k → v ≡ get_or kept i v
seen_at kept i v k is at = is ∙ at ∙ ap (get_or kept i) (sym is)
