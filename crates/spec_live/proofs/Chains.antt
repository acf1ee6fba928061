-- The laws of chains.
use Rattle.std.proofs.Common.{◌≡◌, ℕ, ◌<◌, ◌≤◌, zero, suc, List, [], ◌∷◌, Option, Some, None, inl, inr, refl, sym, ◌∙◌, ap, subst, length, arith, true, false, eqb}
use Rattle.std.proofs.lemmas.Bool.{cases_eq, ne_eqb, eq-eqb, eqb-true, or_cases, false≢true}
use Rattle.std.proofs.lemmas.Map.Steps.{length-le_from_distinct_below}
use Rattle.std.specs.List.{IsDistinct, AllByRecursion, list_any}
use Rattle.spec_live.specs.Chain.{walk, IsChain, Ends, Member, IsApart, without_number}

-- a chain is one list
pub chain_same : (n : ℕ) (f : ℕ → Option ℕ) (s : Option ℕ) (xs ys : List ℕ) → IsChain n f s xs → IsChain n f s ys → xs ≡ ys
unfolding IsChain
chain_same n f s [] [] a b = refl
chain_same n f s [] (y ∷ ys) a b = cc (a, b.0)
chain_same n f s (x ∷ xs) [] a b = cc (a.0, b)
chain_same n f s (x ∷ xs) (y ∷ ys) a b =
    let same : x ≡ y = cc (a.0, b.0) in
    let P : ℕ → Type 0 = λ z. IsChain n f (f z) ys in
    let rest : xs ≡ ys = chain_same n f (f x) xs ys a.2 (subst P (sym same) b.2) in
    cc

-- writes outside a chain leave it
pub chain_frame : (n : ℕ) (f g : ℕ → Option ℕ) (s : Option ℕ) (xs : List ℕ) → ((x : ℕ) → Member x xs → g x ≡ f x) → IsChain n f s xs → IsChain n g s xs
unfolding IsChain Member
chain_frame n f g s [] same h = h
chain_frame n f g s (x ∷ xs) same h =
    let P : Option ℕ → Type 0 = λ t. IsChain n g t xs in
    (h.0, h.1, subst P (sym (same x (inl refl))) (chain_frame n f g (f x) xs (λ y m. same y (inr m)) h.2))

pub chain_below : (n : ℕ) (f : ℕ → Option ℕ) (s : Option ℕ) (xs : List ℕ) (y : ℕ) → IsChain n f s xs → Member y xs → y < n
unfolding IsChain Member
chain_below n f s [] y h m = elim m [ ]
chain_below n f s (x ∷ xs) y h m = elim m [ inl e ↦ omega (arith, h.1, e) | inr r ↦ chain_below n f (f x) xs y h.2 r ]

-- what a number in a chain leads to is a shorter chain
pub chain_from : (n : ℕ) (f : ℕ → Option ℕ) (s : Option ℕ) (xs : List ℕ) (y : ℕ) → IsChain n f s xs → Member y xs → (ys : List ℕ) × IsChain n f (f y) ys × (length ys < length xs)
unfolding IsChain Member
chain_from n f s [] y h m = elim m [ ]
chain_from n f s (x ∷ xs) y h m =
    let P : ℕ → Type 0 = λ z. IsChain n f (f z) xs in
    elim m [
      | inl e ↦ (xs, subst P (sym e) h.2, omega arith)
      | inr r ↦ let k : (ys : List ℕ) × IsChain n f (f y) ys × (length ys < length xs) = chain_from n f (f x) xs y h.2 r in (k.0, k.1, omega (arith, k.2))
    ]

pub chain_apart : (n : ℕ) (f : ℕ → Option ℕ) (s : Option ℕ) (xs : List ℕ) → IsChain n f s xs → IsApart xs
unfolding IsChain IsApart
chain_apart n f s [] h = tt
chain_apart n f s (x ∷ xs) h = (
  (λ m. let k : (ys : List ℕ) × IsChain n f (f x) ys × (length ys < length xs) = chain_from n f (f x) xs x h.2 m in
      let e : k.0 ≡ xs = chain_same n f (f x) k.0 xs k.1 h.2 in
      omega (arith, k.2, ap length e)),
  chain_apart n f (f x) xs h.2,
)

pub member_any : (q : ℕ) (xs : List ℕ) → list_any (eqb q) xs ≡ true → Member q xs
unfolding Member
member_any q [] h = absurd (false≢true h)
member_any q (x ∷ xs) h = elim (or_cases (eqb q x) (list_any (eqb q) xs) h) [ inl e ↦ inl (eqb-true q x e) | inr e ↦ inr (member_any q xs e) ]

all_other : (x : ℕ) (xs : List ℕ) → (Member x xs → ⊥) → AllByRecursion (λ y. eqb x y ≡ false) xs
unfolding Member
all_other x [] h = tt
all_other x (y ∷ xs) h = (ne_eqb x y (λ e. h (inl e)), all_other x xs (λ m. h (inr m)))

pub apart_distinct : (xs : List ℕ) → IsApart xs → IsDistinct eqb xs
unfolding IsApart IsDistinct
apart_distinct [] h = tt
apart_distinct (x ∷ xs) h = (all_other x xs h.0, apart_distinct xs h.1)

-- a chain has at most n numbers
pub chain_short : (n : ℕ) (f : ℕ → Option ℕ) (s : Option ℕ) (xs : List ℕ) → IsChain n f s xs → length xs ≤ n
chain_short n f s xs h = length-le_from_distinct_below xs n (apart_distinct xs (chain_apart n f s xs h)) (λ q e. chain_below n f s xs q h (member_any q xs e))

chain_walk : (k n : ℕ) (f : ℕ → Option ℕ) (s : Option ℕ) (xs : List ℕ) → IsChain n f s xs → length xs ≤ k → walk k f s ≡ xs
unfolding IsChain walk
chain_walk zero n f s [] h le = refl
chain_walk (suc k) n f s [] h le = rw h refl
chain_walk zero n f s (x ∷ xs) h le = absurd (omega arith)
chain_walk (suc k) n f s (x ∷ xs) h le = rw h.0 (ap (λ t. x ∷ t) (chain_walk k n f (f x) xs h.2 (omega arith)))

-- the walk of n steps is the chain
pub walk_is : (n : ℕ) (f : ℕ → Option ℕ) (s : Option ℕ) (xs : List ℕ) → IsChain n f s xs → walk n f s ≡ xs
walk_is n f s xs h = chain_walk n n f s xs h (chain_short n f s xs h)

pub ends_from : (n : ℕ) (f : ℕ → Option ℕ) (s : Option ℕ) (xs : List ℕ) → IsChain n f s xs → Ends n f s
unfolding Ends
ends_from n f s xs h = let P : List ℕ → Type 0 = λ t. IsChain n f s t in subst P (sym (walk_is n f s xs h)) h

-- one step of a walk
pub record Steps (n : ℕ) (f : ℕ → Option ℕ) (x : ℕ) : Type 0 where
  pub within : x < n
  pub here : walk n f (Some x) ≡ x ∷ walk n f (f x)
  pub ends : Ends n f (f x)

steps_at : (n : ℕ) (f : ℕ → Option ℕ) (x : ℕ) (xs : List ℕ) → IsChain n f (Some x) xs → Steps n f x
unfolding IsChain
steps_at n f x [] h = absurd (cc)
steps_at n f x (y ∷ ys) h =
    let same : x ≡ y = cc (h.0) in
    let P : ℕ → Type 0 = λ z. IsChain n f (f z) ys in
    let rest : IsChain n f (f x) ys = subst P (sym same) h.2 in
    record {
      within = omega (arith, h.1, same);
      here = walk_is n f (Some x) (x ∷ ys) (refl, omega (arith, h.1, same), rest) ∙ ap (λ t. x ∷ t) (sym (walk_is n f (f x) ys rest));
      ends = ends_from n f (f x) ys rest;
    }

pub ends_step : (n : ℕ) (f : ℕ → Option ℕ) (x : ℕ) → Ends n f (Some x) → Steps n f x
unfolding Ends
ends_step n f x h = steps_at n f x (walk n f (Some x)) h

-- leaving out
pub without_same : (d : ℕ) (xs : List ℕ) → (Member d xs → ⊥) → without_number d xs ≡ xs
unfolding Member without_number
without_same d [] h = refl
without_same d (x ∷ xs) h = rw (ne_eqb x d (λ e. h (inl (sym e)))) (ap (λ t. x ∷ t) (without_same d xs (λ m. h (inr m))))

pub without_first : (d : ℕ) (xs : List ℕ) → (Member d xs → ⊥) → without_number d (d ∷ xs) ≡ xs
unfolding without_number
without_first d xs h = rw (eq-eqb d d refl) (without_same d xs h)

pub without_gone : (d : ℕ) (xs : List ℕ) → Member d (without_number d xs) → ⊥
unfolding Member without_number
without_gone d [] m = m
without_gone d (x ∷ xs) m = elim (cases_eq x d) [
  | inl e ↦ without_gone d xs (rw (eq-eqb x d e) at m)
  | inr e ↦ let k : Member d (x ∷ without_number d xs) = rw (ne_eqb x d e) at m in elim k [ inl q ↦ e (sym q) | inr q ↦ without_gone d xs q ]
]

pub without_member : (d y : ℕ) (xs : List ℕ) → Member y (without_number d xs) → Member y xs
unfolding Member without_number
without_member d y [] m = m
without_member d y (x ∷ xs) m = elim (cases_eq x d) [
  | inl e ↦ inr (without_member d y xs (rw (eq-eqb x d e) at m))
  | inr e ↦ let k : Member y (x ∷ without_number d xs) = rw (ne_eqb x d e) at m in elim k [ inl q ↦ inl q | inr q ↦ inr (without_member d y xs q) ]
]

pub member_without : (d y : ℕ) (xs : List ℕ) → (y ≡ d → ⊥) → Member y xs → Member y (without_number d xs)
unfolding Member without_number
member_without d y [] ne m = m
member_without d y (x ∷ xs) ne m = elim (cases_eq x d) [
  | inl e ↦ rw (eq-eqb x d e) (elim m [ inl q ↦ absurd (ne (q ∙ e)) | inr q ↦ member_without d y xs ne q ])
  | inr e ↦ rw (ne_eqb x d e) (let k : Member y (x ∷ without_number d xs) = elim m [ inl q ↦ inl q | inr q ↦ inr (member_without d y xs ne q) ] in k)
]

pub apart_first : (x : ℕ) (xs : List ℕ) → IsApart (x ∷ xs) → Member x xs → ⊥
unfolding IsApart
apart_first x xs h = h.0

-- the first of a chain is left out
pub chain_without_first : (n : ℕ) (f : ℕ → Option ℕ) (d : ℕ) (xs : List ℕ) → IsChain n f (Some d) xs → IsChain n f (f d) (without_number d xs)
unfolding IsChain
chain_without_first n f d [] h = absurd (cc)
chain_without_first n f d (x ∷ xs) h =
    let same : d ≡ x = cc (h.0) in
    let apart : IsApart (x ∷ xs) = chain_apart n f (Some d) (x ∷ xs) h in
    let P : ℕ → Type 0 = λ z. IsChain n f (f d) (without_number d (z ∷ xs)) in
    let Q : ℕ → Type 0 = λ z. Member z xs → ⊥ in
    let R : ℕ → Type 0 = λ z. IsChain n f (f z) xs in
    let gone : Member d xs → ⊥ = subst Q (sym same) (apart_first x xs apart) in
    subst P same (rw (without_first d xs gone) (subst R (sym same) h.2))

-- one further on is left out: the one before it, i, leads on past it
pub chain_without : (n : ℕ) (f g : ℕ → Option ℕ) (i d : ℕ) (s : Option ℕ) (xs : List ℕ) → f i ≡ Some d → g i ≡ f d → ((x : ℕ) → (x ≡ i → ⊥) → g x ≡ f x)
    → Member i xs → (s ≡ Some d → ⊥) → IsChain n f s xs → IsChain n g s (without_number d xs)
unfolding IsChain Member without_number
chain_without n f g i d s [] to new others m ne h = elim m [ ]
chain_without n f g i d s (x ∷ xs) to new others m ne h =
    let apart : Member x xs → ⊥ = apart_first x xs (chain_apart n f s (x ∷ xs) h) in
    let other : x ≡ d → ⊥ = λ e. ne (h.0 ∙ ap (λ z. Some z) e) in
    let rest : IsChain n f (f x) xs = h.2 in
    let after : IsChain n g (g x) (without_number d xs) =
    elim (cases_eq x i) [
      | inl e ↦
          let Q : ℕ → Type 0 = λ z. Member z xs → ⊥ in
          let P : Option ℕ → Type 0 = λ t. IsChain n f t xs in
          let G : Option ℕ → Type 0 = λ t. IsChain n g t (without_number d xs) in
          let gone : Member i xs → ⊥ = subst Q e apart in
          let at_d : IsChain n f (Some d) xs = subst P (ap f e ∙ to) rest in
          subst G (sym (ap g e ∙ new)) (chain_frame n f g (f d) (without_number d xs) (λ y q. others y (λ w. gone (let M : ℕ → Type 0 = λ z. Member z xs in subst M w (without_member d y xs q)))) (chain_without_first n f d xs at_d))
      | inr e ↦
          let deeper : Member i xs = elim m [ inl q ↦ absurd (e (sym q)) | inr q ↦ q ] in
          let later : f x ≡ Some d → ⊥ = λ q.
          let k : (ys : List ℕ) × IsChain n f (f i) ys × (length ys < length xs) = chain_from n f (f x) xs i rest deeper in
          let P : Option ℕ → Type 0 = λ t. IsChain n f t k.0 in
          let same : k.0 ≡ xs = chain_same n f (f x) k.0 xs (subst P (to ∙ sym q) k.1) rest in
          omega (arith, k.2, ap length same) in
          let G : Option ℕ → Type 0 = λ t. IsChain n g t (without_number d xs) in
          subst G (sym (others x e)) (chain_without n f g i d (f x) xs to new others deeper later rest)
    ] in
    rw (ne_eqb x d other) (h.0, h.1, after)

-- steps in the form that loops want
pub ends_within : (n : ℕ) (f : ℕ → Option ℕ) (s : Option ℕ) (x : ℕ) → s ≡ Some x → Ends n f s → x < n
ends_within n f s x e h = let P : Option ℕ → Type 0 = λ t. Ends n f t in (ends_step n f x (subst P e h)).within

pub ends_next : (n : ℕ) (f : ℕ → Option ℕ) (s t : Option ℕ) (x : ℕ) → s ≡ Some x → t ≡ f x → Ends n f s → Ends n f t
ends_next n f s t x e to h = let P : Option ℕ → Type 0 = λ t. Ends n f t in subst P (sym to) (ends_step n f x (subst P e h)).ends

pub walk_next : (n : ℕ) (f : ℕ → Option ℕ) (s t : Option ℕ) (x : ℕ) → s ≡ Some x → t ≡ f x → Ends n f s → walk n f s ≡ x ∷ walk n f t
walk_next n f s t x e to h = let P : Option ℕ → Type 0 = λ t. Ends n f t in rw (e, to) (ends_step n f x (subst P e h)).here

pub walk_shorter : (n : ℕ) (f : ℕ → Option ℕ) (s t : Option ℕ) (x : ℕ) → s ≡ Some x → t ≡ f x → Ends n f s → length (walk n f t) < length (walk n f s)
walk_shorter n f s t x e to h = omega (arith, ap length (walk_next n f s t x e to h))

pub member_next : (n : ℕ) (f : ℕ → Option ℕ) (s t : Option ℕ) (x y : ℕ) → s ≡ Some x → t ≡ f x → Ends n f s → Member y (walk n f t) → Member y (walk n f s)
unfolding Member
member_next n f s t x y e to h m = let k : Member y (x ∷ walk n f t) = inr m in let P : List ℕ → Type 0 = λ l. Member y l in subst P (sym (walk_next n f s t x e to h)) k

pub member_later : (n : ℕ) (f : ℕ → Option ℕ) (s t : Option ℕ) (x y : ℕ) → s ≡ Some x → t ≡ f x → Ends n f s → (x ≡ y → ⊥) → Member y (walk n f s) → Member y (walk n f t)
unfolding Member
member_later n f s t x y e to h ne m = let P : List ℕ → Type 0 = λ l. Member y l in let k : Member y (x ∷ walk n f t) = subst P (walk_next n f s t x e to h) m in elim k [ inl q ↦ absurd (ne (sym q)) | inr q ↦ q ]

pub member_here : (n : ℕ) (f : ℕ → Option ℕ) (s : Option ℕ) (x : ℕ) → s ≡ Some x → Ends n f s → Member x (walk n f s)
unfolding Member
member_here n f s x e h = let P : List ℕ → Type 0 = λ l. Member x l in let k : Member x (x ∷ walk n f (f x)) = inl refl in subst P (sym (walk_next n f s (f x) x e refl h)) k

pub walk_none : (n : ℕ) (f : ℕ → Option ℕ) → walk n f None ≡ []
unfolding walk
walk_none zero f = refl
walk_none (suc n) f = refl

pub member_none : (n : ℕ) (f : ℕ → Option ℕ) (s : Option ℕ) (y : ℕ) → s ≡ None → Member y (walk n f s) → ⊥
unfolding Member
member_none n f s y e m = let P : List ℕ → Type 0 = λ l. Member y l in let Q : Option ℕ → Type 0 = λ t. Member y (walk n f t) in subst P (walk_none n f) (subst Q e m)
