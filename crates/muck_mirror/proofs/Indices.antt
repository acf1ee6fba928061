-- Kept bodies by their places among the batches: lists of places that rise.
use Rattle.std.proofs.Common.{◌≡◌, ◌≢◌, ◌⊎◌, inl, inr, ℕ, suc, ◌<◌, ◌≤◌, Bool, true, false, eqb, ltb, List, [], ◌∷◌, refl, sym, ◌∙◌, arith}
use Rattle.std.specs.Prelude.{if◌then◌else◌}
use Rattle.std.proofs.lemmas.Bool.{eqb-true, eqb-false, ltb-true, ltb-false}

abbrev pub Has : ℕ → List ℕ → Type 0
Has i [] = ⊥
Has i (k ∷ ks) = (i ≡ k) ⊎ Has i ks

-- each of them is at least `low` and below `most`, and above the one before it
abbrev pub Rising : ℕ → ℕ → List ℕ → Type 0
Rising low most [] = Unit {0}
Rising low most (i ∷ is) = (low ≤ i) × (i < most) × Rising (suc i) most is

pub rising_from : (low lower most : ℕ) (is : List ℕ) → lower ≤ low → Rising low most is → Rising lower most is
rising_from low lower most [] le up = tt
rising_from low lower most (i ∷ is) le up = (omega (arith, le, up.0), up.1, up.2)

pub rising_has : (low most i : ℕ) (is : List ℕ) → Rising low most is → Has i is → (low ≤ i) × (i < most)
rising_has low most i [] up has = absurd has
rising_has low most i (k ∷ is) up (inl same) = (omega (arith, up.0, same), omega (arith, up.1, same))
rising_has low most i (k ∷ is) up (inr has) = let r = rising_has (suc k) most i is up.2 has in (omega (arith, up.0, r.0), r.1)

-- a place is put in among them
unfoldable pub put : ℕ → List ℕ → List ℕ
put i [] = i ∷ []
put i (k ∷ ks) = if ltb k i then k ∷ put i ks else i ∷ k ∷ ks

pub has_put : (k i : ℕ) (is : List ℕ) → Has k is → Has k (put i is)
unfolding put
has_put k i [] has = absurd has
has_put k i (j ∷ is) has = by (has_put k i is) (ltb j i) has
  where
    by : (Has k is → Has k (put i is)) → (b : Bool) → Has k (j ∷ is) → Has k (if b then j ∷ put i is else i ∷ j ∷ is)
    by more true (inl same) = inl same
    by more true (inr has) = inr (more has)
    by more false has = inr has

pub put_has : (i : ℕ) (is : List ℕ) → Has i (put i is)
unfolding put
put_has i [] = inl refl
put_has i (j ∷ is) = by (put_has i is) (ltb j i)
  where
    by : Has i (put i is) → (b : Bool) → Has i (if b then j ∷ put i is else i ∷ j ∷ is)
    by more true = inr more
    by more false = inl refl

pub put_only : (k i : ℕ) (is : List ℕ) → Has k (put i is) → (k ≡ i) ⊎ Has k is
unfolding put
put_only k i [] (inl same) = inl same
put_only k i [] (inr none) = absurd none
put_only k i (j ∷ is) has = by (put_only k i is) (ltb j i) has
  where
    either : (k ≡ i) ⊎ Has k is → (k ≡ i) ⊎ Has k (j ∷ is)
    either (inl same) = inl same
    either (inr has) = inr (inr has)

    by : (Has k (put i is) → (k ≡ i) ⊎ Has k is) → (b : Bool) → Has k (if b then j ∷ put i is else i ∷ j ∷ is) → (k ≡ i) ⊎ Has k (j ∷ is)
    by more true (inl same) = inr (inl same)
    by more true (inr has) = either (more has)
    by more false (inl same) = inl same
    by more false (inr has) = inr has

pub put_rising : (low most i : ℕ) (is : List ℕ) → low ≤ i → i < most → (Has i is → ⊥) → Rising low most is → Rising low most (put i is)
unfolding put
put_rising low most i [] le lt new up = (le, lt, tt)
put_rising low most i (j ∷ is) le lt new up = by (λ le. put_rising (suc j) most i is le lt (λ has. new (inr has)) up.2) (ltb j i) refl
  where
    by : (suc j ≤ i → Rising (suc j) most (put i is)) → (b : Bool) → ltb j i ≡ b → Rising low most (if b then j ∷ put i is else i ∷ j ∷ is)
    by more true e = (up.0, up.1, more (omega (arith, ltb-true j i e)))
    by more false e = (le, lt, (omega (arith, ltb-false j i e, λ (same : i ≡ j). new (inl same)), up.1, up.2))

-- how far places that follow each other lead from j on, and those that are left
unfoldable pub cont : ℕ → List ℕ → ℕ × List ℕ
cont j [] = (j, [])
cont j (i ∷ is) = if eqb i j then cont (suc j) is else (j, i ∷ is)

pub record Comes (j most : ℕ) (is : List ℕ) (to : ℕ × List ℕ) : Type 0 where
  pub later : j ≤ to.0
  pub within : to.0 ≤ most
  pub rises : Rising (suc to.0) most to.1
  pub between : (k : ℕ) → j ≤ k → k < to.0 → Has k is
  pub left : (k : ℕ) → Has k to.1 → Has k is
  pub all : (k : ℕ) → Has k is → (k < to.0) ⊎ Has k to.1

pub cont_comes : (j most : ℕ) (is : List ℕ) → j ≤ most → Rising j most is → Comes j most is (cont j is)
unfolding cont
cont_comes j most [] le up = record {
  later = omega arith;
  within = le;
  rises = tt;
  between = λ k a b. absurd (omega (arith, a, b));
  left = λ k has. has;
  all = λ k has. absurd has;
}
cont_comes j most (i ∷ is) le up = by (λ le up. cont_comes (suc j) most is le up) (eqb i j) refl
  where
    pick : (k : ℕ) → i ≡ j → j ≤ k → k < (cont (suc j) is).0 → Comes (suc j) most is (cont (suc j) is) → (b : Bool) → eqb k j ≡ b → Has k (i ∷ is)
    pick k same a lt next true e = inl (eqb-true k j e ∙ sym same)
    pick k same a lt next false e = inr (next.between k (omega (arith, a, eqb-false k j e)) lt)

    any : (k : ℕ) → i ≡ j → Comes (suc j) most is (cont (suc j) is) → Has k (i ∷ is) → (k < (cont (suc j) is).0) ⊎ Has k (cont (suc j) is).1
    any k same next (inl is_i) = inl (omega (arith, is_i, same, next.later))
    any k same next (inr has) = next.all k has

    by : (suc j ≤ most → Rising (suc j) most is → Comes (suc j) most is (cont (suc j) is)) → (b : Bool) → eqb i j ≡ b → Comes j most (i ∷ is) (if b then cont (suc j) is else (j, i ∷ is))
    by more true e =
        let same : i ≡ j = eqb-true i j e in
        let next : Comes (suc j) most is (cont (suc j) is) = more (omega (arith, up.1, same)) (rising_from (suc i) (suc j) most is (omega (arith, same)) up.2) in record {
          later = omega (arith, next.later);
          within = next.within;
          rises = next.rises;
          between = λ k a lt. pick k same a lt next (eqb k j) refl;
          left = λ k has. inr (next.left k has);
          all = λ k has. any k same next has;
        }
    by more false e =
        let other : i ≢ j = eqb-false i j e in record {
          later = omega arith;
          within = le;
          rises = (omega (arith, up.0, other), up.1, up.2);
          between = λ k a b. absurd (omega (arith, a, b));
          left = λ k has. has;
          all = λ k has. inr has;
        }
