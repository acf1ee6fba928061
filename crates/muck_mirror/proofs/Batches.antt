-- The batches of a file by their places.
use Rattle.std.proofs.Common.{◌≡◌, inl, inr, ℕ, zero, suc, ◌+◌, ◌-◌, ◌<◌, ◌≤◌, ◌%◌, ◌^◌, Bool, true, false, eqb, ltb, List, [], ◌∷◌, length, map, Option, Some, None, Result, Ok, Err, refl, sym, ◌∙◌, ap, subst, arith}
use Rattle.std.specs.Prelude.{slice_get, ◌||◌, if◌then◌else◌}
use Rattle.std.proofs.lemmas.Bool.{cond-true, cond-false, eq-eqb, ne_eqb, eqb-true, eqb-false, lt-ltb, le-ltb, ltb-true, ltb-false}
use Rattle.std.proofs.lemmas.Option.{same_Some, none-some}
use Rattle.muck_laws.proofs.Places.{some_at, within}
use Rattle.muck_log.specs.World.{StoredWorld, start}
use Rattle.muck_mirror.specs.Laying.{laid_in}
use Rattle.muck_mirror.specs.Bodies.{FedBody, fed_body_in}
use Rattle.muck_log.specs.File.{after_number}
use Rattle.muck_mirror.specs.Mirrors.{Come, ahead, is_body_kept, bodies_kept_with, bodies_followed}
use Rattle.muck_mirror.specs.Fronts.{AreBatches, laid_body, or_else_world, front_world}
use Rattle.muck_mirror.proofs.Numbers.{num, num_zero, num_next, num_later, far_ahead, num_same}
use Rattle.muck_mirror.proofs.Indices.{Has, Rising, put, cont}

-- the batch of place i
pub record BatchAt (g first i : ℕ) (w : StoredWorld) (bodies : List (List ℕ)) (bytes : List ℕ) : Type 0 where
  pub body : FedBody
  pub reads : fed_body_in g bytes ≡ Ok body
  pub numbered : body.number ≡ num first i
  pub lays : laid_in body.version body.payload (front_world g i bodies w) ≡ Some (front_world g (suc i) bodies w)

pub batch_at : (g first : ℕ) (w : StoredWorld) (bodies : List (List ℕ)) (i : ℕ) (bytes : List ℕ) → first < 2 ^ 64 → AreBatches g first w bodies → slice_get bodies i ≡ Some bytes → BatchAt g first i w bodies bytes
unfolding front_world after_number
batch_at g first w [] i bytes small are at = absurd (none-some bytes at)
batch_at g first w (x ∷ rest) zero bytes small are at =
    let b = are.1 in
    let same : x ≡ bytes = same_Some x bytes at in
    let next : or_else_world (laid_body (fed_body_in g x) w) w ≡ are.0 = ap (λ r. or_else_world (laid_body r w) w) b.reads ∙ ap (λ o. or_else_world o w) b.lays in record {
      body = b.body;
      reads = ap (fed_body_in g) (sym same) ∙ b.reads;
      numbered = b.numbered ∙ sym (num_zero first small);
      lays = b.lays ∙ ap Some (sym next);
    }
batch_at g first w (x ∷ rest) (suc i) bytes small are at =
    let b = are.1 in
    let next : or_else_world (laid_body (fed_body_in g x) w) w ≡ are.0 = ap (λ r. or_else_world (laid_body r w) w) b.reads ∙ ap (λ o. or_else_world o w) b.lays in
    let r = batch_at g (after_number first) are.0 rest i bytes (wrapped first) are.2 at in record {
      body = r.body;
      reads = r.reads;
      numbered = r.numbered ∙ num_later first i;
      lays = ap (λ v. laid_in r.body.version r.body.payload (front_world g i rest v)) next ∙ r.lays ∙ ap (λ v. Some (front_world g (suc i) rest v)) (sym next);
    }
  where
    wrapped : (n : ℕ) → (n + 1) % 2 ^ 64 < 2 ^ 64
    wrapped n = omega arith

abbrev nobody : FedBody
nobody = record { version = 0; number = 0; payload = [] }

abbrev body_or : Result FedBody ℕ → FedBody
body_or (Ok b) = b
body_or (Err left) = nobody

abbrev read_or : ℕ → Option (List ℕ) → FedBody
read_or g (Some bytes) = body_or (fed_body_in g bytes)
read_or g None = nobody

-- the body of place i, where there is one
pub body_at : ℕ → List (List ℕ) → ℕ → FedBody
body_at g bodies i = read_or g (slice_get bodies i)

pub body_is : (g : ℕ) (bodies : List (List ℕ)) (i : ℕ) (bytes : List ℕ) (b : FedBody) → slice_get bodies i ≡ Some bytes → fed_body_in g bytes ≡ Ok b → body_at g bodies i ≡ b
unfolding body_at
body_is g bodies i bytes b at reads = ap (read_or g) at ∙ ap body_or reads

abbrev come_of : ℕ → StoredWorld → List FedBody → Come
come_of next w kept = record { next = next; world = w; kept = kept }

module _ (g first : ℕ) (bodies : List (List ℕ)) (small : first < 2 ^ 64) (few : length bodies ≤ 2 ^ 63) (are : AreBatches g first start bodies) where
  -- number of the body of a place
  pub number_at : (i : ℕ) → i < length bodies → (body_at g bodies i).number ≡ num first i
  number_at i lt =
      let t = some_at bodies i lt in
      let b = batch_at g first start bodies i t.0 small are t.1 in
      ap (λ (x : FedBody). x.number) (body_is g bodies i t.0 b.body t.1 b.reads) ∙ b.numbered

  pub lays_at : (i : ℕ) → i < length bodies → laid_in (body_at g bodies i).version (body_at g bodies i).payload (front_world g i bodies start) ≡ Some (front_world g (suc i) bodies start)
  lays_at i lt =
      let t = some_at bodies i lt in
      let b = batch_at g first start bodies i t.0 small are t.1 in
      ap (λ (x : FedBody). laid_in x.version x.payload (front_world g i bodies start)) (body_is g bodies i t.0 b.body t.1 b.reads) ∙ b.lays

  pub reads_at : (i : ℕ) (bytes : List ℕ) → slice_get bodies i ≡ Some bytes → fed_body_in g bytes ≡ Ok (body_at g bodies i)
  reads_at i bytes at =
      let b = batch_at g first start bodies i bytes small are at in
      b.reads ∙ ap Ok (sym (body_is g bodies i bytes b.body at b.reads))

  pub same_place : (i k : ℕ) (bytes : List ℕ) → slice_get bodies i ≡ Some bytes → slice_get bodies k ≡ Some bytes → k ≡ i
  same_place i k bytes at too =
      let il = within bodies i bytes at in
      let kl = within bodies k bytes too in
      let a = batch_at g first start bodies i bytes small are at in
      let b = batch_at g first start bodies k bytes small are too in
      let is : Ok b.body ≡ Ok a.body = sym b.reads ∙ a.reads in
      num_same first i k (omega (arith, kl, few)) (omega (arith, il, few)) (sym b.numbered ∙ ap (λ (r : Result FedBody ℕ). (body_or r).number) is ∙ a.numbered)

  pub kept_has : (low i : ℕ) (is : List ℕ) → i < length bodies → Rising low (length bodies) is → is_body_kept (num first i) (map (body_at g bodies) is) ≡ true → Has i is
  kept_has low i [] lt up e = cc
  kept_has low i (k ∷ is) lt up e = by (kept_has (suc k) i is lt up.2) (eqb (body_at g bodies k).number (num first i)) refl e
    where
      by : (is_body_kept (num first i) (map (body_at g bodies) is) ≡ true → Has i is) → (b : Bool) → eqb (body_at g bodies k).number (num first i) ≡ b
          → (b || is_body_kept (num first i) (map (body_at g bodies) is)) ≡ true → Has i (k ∷ is)
      by more true same h = inl (num_same first k i (omega (arith, lt, few)) (omega (arith, up.1, few)) (sym (eqb-true _ _ same) ∙ number_at k up.1))
      by more false other h = inr (more h)

  pub has_kept : (low i : ℕ) (is : List ℕ) → Rising low (length bodies) is → is_body_kept (num first i) (map (body_at g bodies) is) ≡ false → Has i is → ⊥
  has_kept low i [] up e has = has
  has_kept low i (k ∷ is) up e has = by (has_kept (suc k) i is up.2) (eqb (body_at g bodies k).number (num first i)) refl e has
    where
      by : (is_body_kept (num first i) (map (body_at g bodies) is) ≡ false → Has i is → ⊥) → (b : Bool) → eqb (body_at g bodies k).number (num first i) ≡ b
          → (b || is_body_kept (num first i) (map (body_at g bodies) is)) ≡ false → Has i (k ∷ is) → ⊥
      by more true same h has = cc
      by more false other h (inl is_k) = eqb-false _ _ other (number_at k up.1 ∙ ap (num first) (sym is_k))
      by more false other h (inr has) = more h has

  far : (j k : ℕ) → j ≤ k → k < length bodies → ahead (num first j) (body_at g bodies k).number ≡ k - j
  unfolding ahead
  far j k le lt = ap (λ n. (n + (2 ^ 64 - num first j)) % 2 ^ 64) (number_at k lt) ∙ far_ahead first j k le (omega (arith, lt, few))

  pub put_kept : (j i low : ℕ) (is : List ℕ) → j ≤ i → i < length bodies → j ≤ low → Rising low (length bodies) is
      → bodies_kept_with (num first j) (body_at g bodies i) (map (body_at g bodies) is) ≡ map (body_at g bodies) (put i is)
  unfolding bodies_kept_with put
  put_kept j i low [] le lt ge up = refl
  put_kept j i low (k ∷ is) le lt ge up = by (put_kept j i (suc k) is le lt (omega (arith, ge, up.0)) up.2) (ltb k i) refl
    where
      test : ltb (ahead (num first j) (body_at g bodies k).number) (ahead (num first j) (body_at g bodies i).number) ≡ ltb (k - j) (i - j)
      test = ap (λ x. ltb x (ahead (num first j) (body_at g bodies i).number)) (far j k (omega (arith, ge, up.0)) up.1) ∙ ap (ltb (k - j)) (far j i le lt)

      by : bodies_kept_with (num first j) (body_at g bodies i) (map (body_at g bodies) is) ≡ map (body_at g bodies) (put i is) → (b : Bool) → ltb k i ≡ b
          → bodies_kept_with (num first j) (body_at g bodies i) (body_at g bodies k ∷ map (body_at g bodies) is) ≡ map (body_at g bodies) (if b then k ∷ put i is else i ∷ k ∷ is)
      by more true e = cond-true _ _ _ (test ∙ lt-ltb (k - j) (i - j) (omega (arith, ltb-true k i e, ge, up.0))) ∙ ap (λ l. body_at g bodies k ∷ l) more
      by more false e = cond-false _ _ _ (test ∙ le-ltb (k - j) (i - j) (omega (arith, ltb-false k i e, le)))

  abbrev reached : ℕ × List ℕ → Come
  reached to = come_of (num first to.0) (front_world g to.0 bodies start) (map (body_at g bodies) to.1)

  pub follows : (j : ℕ) (is : List ℕ) → j ≤ length bodies → Rising j (length bodies) is
      → bodies_followed (map (body_at g bodies) is) (num first j) (front_world g j bodies start) ≡ reached (cont j is)
  unfolding bodies_followed cont after_number
  follows j [] le up = refl
  follows j (k ∷ is) le up = by (follows (suc j) is) (eqb k j) refl
    where
      same_test : eqb k j ≡ true → eqb (body_at g bodies k).number (num first j) ≡ true
      same_test e = eq-eqb _ _ (number_at k up.1 ∙ ap (num first) (eqb-true k j e))

      other_test : eqb k j ≡ false → eqb (body_at g bodies k).number (num first j) ≡ false
      other_test e = ne_eqb _ _ (λ same. eqb-false k j e (num_same first j k (omega (arith, up.1, few)) (omega (arith, le, few)) (sym (number_at k up.1) ∙ same)))

      laid_case : Option StoredWorld → Come
      laid_case o = elim o as (λ _. Come) [ None ↦ come_of (num first j) (front_world g j bodies start) (map (body_at g bodies) is) | Some v ↦ bodies_followed (map (body_at g bodies) is) (after_number (num first j)) v ]

      by : (suc j ≤ length bodies → Rising (suc j) (length bodies) is → bodies_followed (map (body_at g bodies) is) (num first (suc j)) (front_world g (suc j) bodies start) ≡ reached (cont (suc j) is))
          → (b : Bool) → eqb k j ≡ b → bodies_followed (body_at g bodies k ∷ map (body_at g bodies) is) (num first j) (front_world g j bodies start) ≡ reached (if b then cont (suc j) is else (j, k ∷ is))
      by more true e =
          let same : k ≡ j = eqb-true k j e in
          cond-true _ _ _ (same_test e)
          ∙ ap laid_case (ap (λ n. laid_in (body_at g bodies k).version (body_at g bodies k).payload (front_world g n bodies start)) (sym same) ∙ lays_at k up.1 ∙ ap (λ n. Some (front_world g (suc n) bodies start)) same)
          ∙ ap (λ n. bodies_followed (map (body_at g bodies) is) n (front_world g (suc j) bodies start)) (num_next first j)
          ∙ more (omega (arith, up.1, same)) (subst (λ n. Rising (suc n) (length bodies) is) same up.2)
      by more false e = cond-false _ _ _ (other_test e)
