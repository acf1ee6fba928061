-- What feeding a mirror one of the batches does to it.
use Rattle.std.proofs.Common.{◌≡◌, ◌⊎◌, inl, inr, ℕ, suc, ◌+◌, ◌-◌, ◌<◌, ◌≤◌, ◌%◌, ◌^◌, Bool, true, false, eqb, ltb, leb, List, length, map, Some, refl, sym, ◌∙◌, ap, subst, arith}
use Rattle.std.specs.Prelude.{slice_get, ◌||◌, if◌then◌else◌}
use Rattle.std.proofs.lemmas.Bool.{cond-true, eqb-true, eqb-false, ltb-true, ltb-false, le-leb, lt-leb}
use Rattle.muck_laws.proofs.Places.{within}
use Rattle.muck_mirror.specs.declared.mirror.Fed.{Fed}
use Rattle.muck_mirror.specs.declared.mirror.Fed.TheVariants.{Applied, Known, Early, Full}
use Rattle.muck_log.specs.World.{start}
use Rattle.muck_mirror.specs.Laying.{laid_in}
use Rattle.muck_mirror.specs.Bodies.{FedBody}
use Rattle.muck_log.specs.File.{after_number}
use Rattle.muck_mirror.specs.Mirrors.{Mirror, before_number, ahead, is_body_kept, bodies_kept_with, bodies_followed, applied, next_fed, body_fed, read_fed, fed}
use Rattle.muck_mirror.specs.Fronts.{AreBatches, front_world, is_full_answer}
use Rattle.muck_mirror.proofs.Numbers.{num, num_next, far_ahead, far_behind}
use Rattle.muck_mirror.proofs.Indices.{Has, Rising, put, cont}
use Rattle.muck_mirror.proofs.Batches.{body_at, number_at, lays_at, reads_at, kept_has, has_kept, put_kept, follows}

-- the mirror that holds the first j batches and keeps those of these places
abbrev pub mirror_at : ℕ → ℕ → List (List ℕ) → ℕ → List ℕ → Mirror
mirror_at g first bodies j is = record { generation = g; next = num first j; world = front_world g j bodies start; kept = map (body_at g bodies) is }

pub data Outcome (g first : ℕ) (bodies : List (List ℕ)) (j : ℕ) (is : List ℕ) (i : ℕ) (r : Fed × Mirror) : Type 0 where
  knows : r.1 ≡ mirror_at g first bodies j is → (i < j) ⊎ Has i is → Outcome g first bodies j is i r
  is_filled : r.1 ≡ mirror_at g first bodies j is → is_full_answer r.0 ≡ true → Outcome g first bodies j is i r
  keeps : r.1 ≡ mirror_at g first bodies j (put i is) → is_full_answer r.0 ≡ false → j < i → (Has i is → ⊥) → Outcome g first bodies j is i r
  applies : r.1 ≡ mirror_at g first bodies (cont (suc j) is).0 (cont (suc j) is).1 → is_full_answer r.0 ≡ false → i ≡ j → Outcome g first bodies j is i r

module _ (g first : ℕ) (bodies : List (List ℕ)) (small : first < 2 ^ 64) (few : length bodies ≤ 2 ^ 63) (are : AreBatches g first start bodies) where
  abbrev at : ℕ → List ℕ → Mirror
  at j is = mirror_at g first bodies j is

  abbrev Out : ℕ → List ℕ → ℕ → Fed × Mirror → Type 0
  Out j is i r = Outcome g first bodies j is i r

  abbrev b_at : ℕ → FedBody
  b_at i = body_at g bodies i

  abbrev choose : Bool → Bool → Bool → Mirror → Fed × Mirror → Mirror → Fed × Mirror
  choose known next full m n e = if known then (Known, m) else if next then n else if full then (Full, m) else (Early, e)

  far_is : (j i : ℕ) → j ≤ i → i < length bodies → ahead (num first j) (b_at i).number ≡ i - j
  unfolding ahead
  far_is j i le lt = ap (λ n. (n + (2 ^ 64 - num first j)) % 2 ^ 64) (number_at g first bodies small few are i lt) ∙ far_ahead first j i le (omega (arith, lt, few))

  far_was : (j i : ℕ) → i < j → j ≤ length bodies → 2 ^ 63 ≤ ahead (num first j) (b_at i).number
  unfolding ahead
  far_was j i lt le = subst (λ n. 2 ^ 63 ≤ (n + (2 ^ 64 - num first j)) % 2 ^ 64) (sym (number_at g first bodies small few are i (omega (arith, lt, le)))) (far_behind first j i lt (omega (arith, le, few)))

  next_is : (j : ℕ) (is : List ℕ) → j < length bodies → Rising (suc j) (length bodies) is
      → next_fed (at j is) (laid_in (b_at j).version (b_at j).payload (front_world g j bodies start)) ≡ (Applied (before_number (num first (cont (suc j) is).0)), at (cont (suc j) is).0 (cont (suc j) is).1)
  unfolding after_number
  next_is j is lt up =
      ap (next_fed (at j is)) (lays_at g first bodies small few are j lt)
      ∙ ap (λ n. applied (at j is) (bodies_followed (map (body_at g bodies) is) n (front_world g (suc j) bodies start))) (num_next first j)
      ∙ ap (applied (at j is)) (follows g first bodies small few are (suc j) is (omega (arith, lt)) up)

  abbrev full_at : List ℕ → Bool
  full_at is = leb 64 (length (map (body_at g bodies) is))

  abbrev with_kept : ℕ → List ℕ → ℕ → Mirror
  with_kept j is i = record (at j is) { kept = bodies_kept_with (num first j) (b_at i) (map (body_at g bodies) is) }

  kept_is : (j i : ℕ) (is : List ℕ) → j < i → i < length bodies → Rising (suc j) (length bodies) is → with_kept j is i ≡ at j (put i is)
  kept_is j i is lt il up = ap (λ l. record (at j is) { kept = l }) (put_kept g first bodies small few are j i (suc j) is (omega (arith, lt)) il (omega arith) up)

  -- not behind
  outs : (j i : ℕ) (is : List ℕ) → j ≤ length bodies → Rising (suc j) (length bodies) is → j ≤ i → i < length bodies → (k z f : Bool) → is_body_kept (num first i) (map (body_at g bodies) is) ≡ k → eqb (i - j) 0 ≡ z
      → Out j is i (choose k z f (at j is) (next_fed (at j is) (laid_in (b_at i).version (b_at i).payload (front_world g j bodies start))) (with_kept j is i))
  outs j i is jl up ge il true z f ek ez = knows refl (inr (kept_has g first bodies small few are (suc j) i is il up ek))
  outs j i is jl up ge il false true f ek ez =
      let same : i ≡ j = omega (arith, eqb-true (i - j) 0 ez, ge) in
      let r = ap (λ n. next_fed (at j is) (laid_in (b_at n).version (b_at n).payload (front_world g j bodies start))) same ∙ next_is j is (omega (arith, il, same)) up in
      applies (ap (λ (x : Fed × Mirror). x.1) r) (ap (λ (x : Fed × Mirror). is_full_answer x.0) r) same
  outs j i is jl up ge il false false true ek ez = is_filled refl refl
  outs j i is jl up ge il false false false ek ez =
      let lt : j < i = omega (arith, eqb-false (i - j) 0 ez, ge) in
      keeps (kept_is j i is lt il up) refl lt (has_kept g first bodies small few are (suc j) i is up ek)

  abbrev tested : ℕ → ℕ → List ℕ → Bool → ℕ → ℕ → Fed × Mirror
  tested j i is t m n = choose (t || is_body_kept m (map (body_at g bodies) is)) (eqb n 0) (full_at is) (at j is) (next_fed (at j is) (laid_in (b_at i).version (b_at i).payload (front_world g j bodies start))) (with_kept j is i)

  pub fed_at : (j i : ℕ) (is : List ℕ) (bytes : List ℕ) → j ≤ length bodies → Rising (suc j) (length bodies) is → slice_get bodies i ≡ Some bytes → Out j is i (fed (at j is) bytes)
  unfolding fed
  fed_at j i is bytes jl up there =
      let il = within bodies i bytes there in
      subst (Out j is i) (sym (ap (read_fed (at j is)) (reads_at g first bodies small few are i bytes there))) (by il (ltb i j) refl)
    where
      n : ℕ
      n = ahead (num first j) (b_at i).number

      by : i < length bodies → (b : Bool) → ltb i j ≡ b → Out j is i (body_fed (at j is) (b_at i) (ahead (num first j) (b_at i).number))
      by il true e =
          let lt = ltb-true i j e in
          subst (Out j is i) (sym (cond-true (leb (2 ^ 63) (ahead (num first j) (b_at i).number) || is_body_kept (b_at i).number (map (body_at g bodies) is)) _ _ (ap (λ t. t || is_body_kept (b_at i).number (map (body_at g bodies) is)) (le-leb _ _ (far_was j i lt jl))))) (knows refl (inl lt))
      by il false e =
          let ge = ltb-false i j e in
          let d = far_is j i ge il in
          let test : leb (2 ^ 63) (ahead (num first j) (b_at i).number) ≡ false = ap (leb (2 ^ 63)) d ∙ lt-leb (2 ^ 63) (i - j) (omega (arith, il, few, ge)) in
          let all : (λ (t : Bool) (m n : ℕ). tested j i is t m n) (leb (2 ^ 63) (ahead (num first j) (b_at i).number)) (b_at i).number (ahead (num first j) (b_at i).number) ≡ tested j i is false (num first i) (i - j) =
          ap (λ t. tested j i is t (b_at i).number (ahead (num first j) (b_at i).number)) test
          ∙ ap (λ m. tested j i is false m (ahead (num first j) (b_at i).number)) (number_at g first bodies small few are i il)
          ∙ ap (λ x. tested j i is false (num first i) x) d in
          subst (Out j is i) (sym all) (outs j i is jl up ge il (is_body_kept (num first i) (map (body_at g bodies) is)) (eqb (i - j) 0) (full_at is) refl refl)
