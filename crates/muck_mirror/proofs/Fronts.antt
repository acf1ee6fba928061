-- Over every list of calls a mirror of one file holds a front of its batches.
use Rattle.std.proofs.Common.{◌≡◌, ◌⊎◌, inl, inr, ℕ, suc, ◌<◌, ◌≤◌, ◌^◌, Bool, true, false, List, [], ◌∷◌, length, Some, refl, sym, ◌∙◌, ap, subst, arith}
use Rattle.std.specs.Prelude.{slice_get}
use Rattle.std.proofs.lemmas.List.Elements.{All-head, All-tail}
use Rattle.std.proofs.lemmas.Option.{same_Some}
use Rattle.std.proofs.Common.{eqb, ltb}
use Rattle.std.proofs.lemmas.Bool.{eqb-true, eqb-false, ltb-true, ltb-false}
use Rattle.muck_laws.proofs.Places.{within}
use Rattle.muck_laws.proofs.Truths.{none}
use Rattle.muck_log.specs.World.{start}
use Rattle.muck_mirror.specs.Mirrors.{Mirror, mirror_made, fed}
use Rattle.muck_mirror.specs.Fronts.{AreBatches, AllOneOf, Call, HoldsFront, Holds, IsOneOf, IsTaken, WasFed, after_calls, front_world, is_full_answer, mirror_after_call}
use Rattle.muck_mirror.proofs.Numbers.{num_zero}
use Rattle.muck_mirror.proofs.Indices.{Has, Rising, Comes, put, cont, cont_comes, put_rising, put_only, put_has, has_put, rising_has}
use Rattle.muck_mirror.proofs.Batches.{same_place}
use Rattle.muck_mirror.proofs.Steps.{mirror_at, Outcome, knows, is_filled, keeps, applies, fed_at}

-- A mirror that holds the first j batches and keeps those of these places, where so many were taken.
record Inv (g first : ℕ) (bodies : List (List ℕ)) (m : Mirror) (j : ℕ) (is : List ℕ) (P : ℕ → Type 0) : Type 0 where
  shape : m ≡ mirror_at g first bodies j is
  count : j ≤ length bodies
  rises : Rising (suc j) (length bodies) is
  below : (k : ℕ) → k < j → P k
  held : (k : ℕ) → Has k is → P k
  all : (k : ℕ) → P k → (k < j) ⊎ Has k is

record Leads (g first : ℕ) (bodies : List (List ℕ)) (m : Mirror) (P : ℕ → Type 0) : Type 0 where
  j : ℕ
  places : List ℕ
  inv : Inv g first bodies m j places P

-- the batch of place k was fed by this call, and taken
abbrev TakenAt : List (List ℕ) → Mirror → Call → ℕ → Type 0
TakenAt bodies m c k = IsTaken m c × (slice_get bodies k ≡ Some c.bytes)

abbrev FedAt : List (List ℕ) → List Call → Mirror → ℕ → Type 0
FedAt bodies calls m k = (bytes : List ℕ) × (slice_get bodies k ≡ Some bytes) × WasFed calls m bytes

order : (k j : ℕ) → (k < j) ⊎ ((k ≡ j) ⊎ (suc j ≤ k))
order k j = by (ltb k j) (eqb k j) refl refl
  where
    by : (a b : Bool) → ltb k j ≡ a → eqb k j ≡ b → (k < j) ⊎ ((k ≡ j) ⊎ (suc j ≤ k))
    by true b e f = inl (ltb-true k j e)
    by false true e f = inr (inl (eqb-true k j f))
    by false false e f = inr (inr (omega (arith, ltb-false k j e, eqb-false k j f)))

module _ (g first : ℕ) (bodies : List (List ℕ)) (small : first < 2 ^ 64) (few : length bodies ≤ 2 ^ 63) (are : AreBatches g first start bodies) where
  abbrev Now : Mirror → ℕ → List ℕ → (ℕ → Type 0) → Type 0
  Now m j is P = Inv g first bodies m j is P

  -- nothing changed, and nothing new was taken
  stays : (m : Mirror) (j : ℕ) (is : List ℕ) (P Q : ℕ → Type 0) (m' : Mirror) → m' ≡ mirror_at g first bodies j is → Now m j is P → ((k : ℕ) → Q k → (k < j) ⊎ Has k is) → Now m' j is (λ k. P k ⊎ Q k)
  stays m j is P Q m' same inv old = record {
    shape = same;
    count = inv.count;
    rises = inv.rises;
    below = λ k lt. inl (inv.below k lt);
    held = λ k has. inl (inv.held k has);
    all = λ k t. all_of k t;
  }
    where
      all_of : (k : ℕ) → P k ⊎ Q k → (k < j) ⊎ Has k is
      all_of k (inl p) = inv.all k p
      all_of k (inr q) = old k q

  one_kept : (m : Mirror) (j i : ℕ) (is : List ℕ) (P Q : ℕ → Type 0) (m' : Mirror) → m' ≡ mirror_at g first bodies j (put i is) → j < i → i < length bodies → (Has i is → ⊥) → Now m j is P → Q i → ((k : ℕ) → Q k → k ≡ i)
      → Now m' j (put i is) (λ k. P k ⊎ Q k)
  one_kept m j i is P Q m' same lt il new inv q only = record {
    shape = same;
    count = inv.count;
    rises = put_rising (suc j) (length bodies) i is (omega (arith, lt)) il new inv.rises;
    below = λ k lt. inl (inv.below k lt);
    held = λ k has. held_of k (put_only k i is has);
    all = λ k t. all_of k t;
  }
    where
      held_of : (k : ℕ) → (k ≡ i) ⊎ Has k is → P k ⊎ Q k
      held_of k (inl is_i) = inr (subst Q (sym is_i) q)
      held_of k (inr has) = inl (inv.held k has)

      old_of : (k : ℕ) → (k < j) ⊎ Has k is → (k < j) ⊎ Has k (put i is)
      old_of k (inl lt) = inl lt
      old_of k (inr has) = inr (has_put k i is has)

      all_of : (k : ℕ) → P k ⊎ Q k → (k < j) ⊎ Has k (put i is)
      all_of k (inl p) = old_of k (inv.all k p)
      all_of k (inr q) = inr (subst (λ n. Has n (put i is)) (sym (only k q)) (put_has i is))

  some_laid : (m : Mirror) (j i : ℕ) (is : List ℕ) (P Q : ℕ → Type 0) (m' : Mirror) → m' ≡ mirror_at g first bodies (cont (suc j) is).0 (cont (suc j) is).1 → i ≡ j → i < length bodies → Now m j is P → Q i → ((k : ℕ) → Q k → k ≡ i)
      → Comes (suc j) (length bodies) is (cont (suc j) is) → Now m' (cont (suc j) is).0 (cont (suc j) is).1 (λ k. P k ⊎ Q k)
  some_laid m j i is P Q m' same at il inv q only comes = record {
    shape = same;
    count = comes.within;
    rises = comes.rises;
    below = λ k lt. below_of k lt (order k j);
    held = λ k has. inl (inv.held k (comes.left k has));
    all = λ k t. all_of k t;
  }
    where
      below_of : (k : ℕ) → k < (cont (suc j) is).0 → (k < j) ⊎ ((k ≡ j) ⊎ (suc j ≤ k)) → P k ⊎ Q k
      below_of k lt (inl less) = inl (inv.below k less)
      below_of k lt (inr (inl is_j)) = inr (subst Q (at ∙ sym is_j) q)
      below_of k lt (inr (inr more)) = inl (inv.held k (comes.between k more lt))

      old_of : (k : ℕ) → (k < j) ⊎ Has k is → (k < (cont (suc j) is).0) ⊎ Has k (cont (suc j) is).1
      old_of k (inl lt) = inl (omega (arith, lt, comes.later))
      old_of k (inr has) = comes.all k has

      all_of : (k : ℕ) → P k ⊎ Q k → (k < (cont (suc j) is).0) ⊎ Has k (cont (suc j) is).1
      all_of k (inl p) = old_of k (inv.all k p)
      all_of k (inr q) = inl (omega (arith, only k q, at, comes.later))

  -- one call
  after_one : (m : Mirror) (j i : ℕ) (is : List ℕ) (P : ℕ → Type 0) (c : Call) → slice_get bodies i ≡ Some c.bytes → Now m j is P → Leads g first bodies (mirror_after_call c m) (λ k. P k ⊎ TakenAt bodies m c k)
  after_one m j i is P c there inv = by c.refused refl
    where
      only : (k : ℕ) → TakenAt bodies m c k → k ≡ i
      only k t = same_place g first bodies small few are i k c.bytes there t.1

      same : fed m c.bytes ≡ fed (mirror_at g first bodies j is) c.bytes
      same = ap (λ x. fed x c.bytes) inv.shape

      known : (k : ℕ) → (i < j) ⊎ Has i is → TakenAt bodies m c k → (k < j) ⊎ Has k is
      known k (inl lt) t = inl (omega (arith, only k t, lt))
      known k (inr has) t = inr (subst (λ n. Has n is) (sym (only k t)) has)

      full : (k : ℕ) → is_full_answer (fed m c.bytes).0 ≡ true → TakenAt bodies m c k → (k < j) ⊎ Has k is
      full k so t = none t.0.1 so

      left : c.refused ≡ false → mirror_after_call c m ≡ (fed m c.bytes).1
      left went = ap (λ r. elim r as (λ _. Mirror) [ true ↦ m | false ↦ (fed m c.bytes).1 ]) went

      il : i < length bodies
      il = within bodies i c.bytes there

      ends : c.refused ≡ false → Outcome g first bodies j is i (fed m c.bytes) → Leads g first bodies (mirror_after_call c m) (λ k. P k ⊎ TakenAt bodies m c k)
      ends went (knows at old) = record { j = j; places = is; inv = stays m j is P (TakenAt bodies m c) (mirror_after_call c m) (left went ∙ at) inv (λ k. known k old) }
      ends went (is_filled at so) = record { j = j; places = is; inv = stays m j is P (TakenAt bodies m c) (mirror_after_call c m) (left went ∙ at) inv (λ k. full k so) }
      ends went (keeps at open_ lt new) = record { j = j; places = put i is; inv = one_kept m j i is P (TakenAt bodies m c) (mirror_after_call c m) (left went ∙ at) lt il new inv ((went, open_), there) only }
      ends went (applies at open_ is_j) = record {
        j = (cont (suc j) is).0;
        places = (cont (suc j) is).1;
        inv = some_laid m j i is P (TakenAt bodies m c) (mirror_after_call c m) (left went ∙ at) is_j il inv ((went, open_), there) only (cont_comes (suc j) (length bodies) is (omega (arith, il, is_j)) inv.rises);
      }

      by : (b : Bool) → c.refused ≡ b → Leads g first bodies (mirror_after_call c m) (λ k. P k ⊎ TakenAt bodies m c k)
      by true so = record {
        j = j;
        places = is;
        inv = stays m j is P (TakenAt bodies m c) (mirror_after_call c m) (ap (λ r. elim r as (λ _. Mirror) [ true ↦ m | false ↦ (fed m c.bytes).1 ]) so ∙ inv.shape) inv (λ k t. none t.0.0 so);
      }
      by false went = ends went (subst (Outcome g first bodies j is i) (sym same) (fed_at g first bodies small few are j i is c.bytes inv.count inv.rises there))

  -- what was taken under another name
  renamed : (m : Mirror) (P Q : ℕ → Type 0) → Leads g first bodies m P → ((k : ℕ) → P k → Q k) → ((k : ℕ) → Q k → P k) → Leads g first bodies m Q
  renamed m P Q l to from = record {
    j = l.j;
    places = l.places;
    inv = record {
      shape = l.inv.shape;
      count = l.inv.count;
      rises = l.inv.rises;
      below = λ k lt. to k (l.inv.below k lt);
      held = λ k has. to k (l.inv.held k has);
      all = λ k q. l.inv.all k (from k q);
    };
  }

  after_all : (calls : List Call) (m : Mirror) (P : ℕ → Type 0) → AllOneOf bodies calls → Leads g first bodies m P → Leads g first bodies (after_calls calls m) (λ k. P k ⊎ FedAt bodies calls m k)
  unfolding after_calls
  after_all [] m P ones l = renamed m P (λ k. P k ⊎ FedAt bodies [] m k) l (λ k p. inl p) (λ k t. from k t)
    where
      from : (k : ℕ) → P k ⊎ FedAt bodies [] m k → P k
      from k (inl p) = p
      from k (inr t) = absurd t.2
  after_all (c ∷ calls) m P ones l =
      let one : IsOneOf bodies c.bytes = All-head (λ (c : Call). IsOneOf bodies c.bytes) c calls ones in
      let next = after_one m l.j one.0 l.places P c one.1 l.inv in
      renamed (after_calls calls (mirror_after_call c m)) _ (λ k. P k ⊎ FedAt bodies (c ∷ calls) m k) (after_all calls (mirror_after_call c m) (λ k. P k ⊎ TakenAt bodies m c k) (All-tail (λ (c : Call). IsOneOf bodies c.bytes) c calls ones) next) to from
    where
      to : (k : ℕ) → (P k ⊎ TakenAt bodies m c k) ⊎ FedAt bodies calls (mirror_after_call c m) k → P k ⊎ FedAt bodies (c ∷ calls) m k
      to k (inl (inl p)) = inl p
      to k (inl (inr t)) = inr (c.bytes, t.1, inl (t.0, refl))
      to k (inr f) = inr (f.0, f.1, inr f.2)

      split : (k : ℕ) (bytes : List ℕ) → slice_get bodies k ≡ Some bytes → WasFed (c ∷ calls) m bytes → (P k ⊎ TakenAt bodies m c k) ⊎ FedAt bodies calls (mirror_after_call c m) k
      split k bytes at (inl t) = inl (inr (t.0, at ∙ ap Some (sym t.1)))
      split k bytes at (inr f) = inr (bytes, at, f)

      from : (k : ℕ) → P k ⊎ FedAt bodies (c ∷ calls) m k → (P k ⊎ TakenAt bodies m c k) ⊎ FedAt bodies calls (mirror_after_call c m) k
      from k (inl p) = inl (inl p)
      from k (inr f) = split k f.0 f.1 f.2

  at_first : Leads g first bodies (mirror_made g first) (λ k. ⊥)
  unfolding mirror_made front_world
  at_first = record {
    j = 0;
    places = [];
    inv = record {
      shape = ap (λ n. record { generation = g; next = n; world = start; kept = [] }) (sym (num_zero first small));
      count = omega arith;
      rises = tt;
      below = λ k lt. omega (arith, lt);
      held = λ k has. has;
      all = λ k none. absurd none;
    };
  }

  pub holds_of : (calls : List Call) → AllOneOf bodies calls → (m : ℕ) × Holds g first bodies calls m
  holds_of calls ones = (
    l.j,
    record {
      count = l.inv.count;
      world = ap (λ (m : Mirror). m.world) l.inv.shape;
      fed = λ i bytes lt at. was i bytes at (l.inv.below i lt);
      greatest = λ bytes at f. past (l.inv.all l.j (inr (bytes, at, f)));
    },
  )
    where
      l : Leads g first bodies (after_calls calls (mirror_made g first)) (λ k. ⊥ ⊎ FedAt bodies calls (mirror_made g first) k)
      l = after_all calls (mirror_made g first) (λ k. ⊥) ones at_first

      was : (i : ℕ) (bytes : List ℕ) → slice_get bodies i ≡ Some bytes → ⊥ ⊎ FedAt bodies calls (mirror_made g first) i → WasFed calls (mirror_made g first) bytes
      was i bytes at (inl none) = absurd none
      was i bytes at (inr f) = subst (WasFed calls (mirror_made g first)) (same_Some f.0 bytes (sym f.1 ∙ at)) f.2

      past : (l.j < l.j) ⊎ Has l.j l.places → ⊥
      past (inl lt) = omega (arith, lt)
      past (inr has) = omega (arith, (rising_has (suc l.j) (length bodies) l.j l.places l.inv.rises has).0)

pub holds : (g first : ℕ) → first < 2 ^ 64 → HoldsFront g first
holds g first small bodies calls are few ones = holds_of g first bodies small few are calls ones
