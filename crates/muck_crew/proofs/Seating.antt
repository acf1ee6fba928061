-- Seats as they are given out and taken in.
use Rattle.std.proofs.Common.{◌≡◌, ◌⊎◌, inl, inr, ℕ, zero, suc, ◌<◌, ◌≤◌, List, [], ◌∷◌, ◌++◌, length, refl, sym, ap, ◌∙◌, subst, arith, length-append}
use Rattle.std.specs.Prelude.{slice_get}
use Rattle.std.proofs.lemmas.Option.{none-some}
use mathlib.Core.Option.{some, some-ne-none, some-injective}
use lib.ListN.{get_elem?}
use Rattle.muck_laws.proofs.Places.{got_before, got_last, place_snoc}
use Rattle.atomic_table.specs.Seated.{TableId}
use Rattle.turn_lock.specs.Histories.{Has}
use Rattle.turn_lock.specs.inner.Turns.{left_after, newcomer, taken_in}
use Rattle.muck_machine.specs.inner.Seats.{Sight}
use Rattle.muck_crew.specs.declared.seats.Part.{Part}
use Rattle.muck_crew.specs.inner.Parts.{given_to, IsDealt, AreDealt, IsOver, AreOver, all_in}

-- Lists by place.

-- Given out.

-- no party up to this one has a seat yet but those that were given one
pub given_low : (n : ℕ) (v : Sight) (p : ℕ) → v.given ≡ [] → Has (given_to n v).given p → (0 < p) × (p ≤ n)
given_low zero v p none (i, at) = absurd (some-ne-none p (sym (sym (ap (λ (ps : List ℕ). get_elem? ps i) none) ∙ at)))
given_low (suc n) v p none (i, at) = elim (last_or (given_to n v).given (suc n) p i at) [ inl e ↦ (omega (arith, e), omega (arith, e)) | inr h ↦ (let low = given_low n v p none h in (low.0, omega (arith, low.1))) ]
  where
    last_or : (ps : List ℕ) (q r : ℕ) (j : ℕ) → get_elem? (ps ++ q ∷ []) j ≡ some r → (q ≡ r) ⊎ Has ps r
    last_or [] q r zero e = inl (some-injective q r e)
    last_or [] q r (suc j) e = absurd (some-ne-none r (sym e))
    last_or (x ∷ xs) q r zero e = inr (0, e)
    last_or (x ∷ xs) q r (suc j) e = elim (last_or xs q r j e) [ inl s ↦ inl s | inr h ↦ inr (suc h.0, h.1) ]

pub given_count : (n : ℕ) (v : Sight) → v.given ≡ [] → length (given_to n v).given ≡ n
given_count zero v none = ap length none
given_count (suc n) v none = let ih = given_count n v none in let l = length-append (given_to n v).given (suc n ∷ []) in omega (arith, ih, l)

-- one part more
pub dealt_one : (table : TableId) (n : ℕ) (v : Sight) (parts : List Part) (p : Part) → AreDealt table n v parts → IsDealt table (suc n) v p → AreDealt table (suc n) v (parts ++ p ∷ [])
dealt_one table n v parts p dealt one = record {
  count = (let l = length-append parts (p ∷ []) in let c = dealt.count in omega (arith, l, c));
  each = λ i q at. elim (place_snoc parts p q i at) [
    | inl e ↦ subst (λ (m : ℕ). IsDealt table (suc m) v q) (sym (e.0 ∙ dealt.count)) (subst (IsDealt table (suc n) v) e.1 one)
    | inr there ↦ dealt.each i q there
  ];
}

pub dealt_none : (table : TableId) (v : Sight) (parts : List Part) → parts ≡ [] → AreDealt table 0 v parts
dealt_none table v parts none = record {
  count = ap length none;
  each = λ i q at. absurd (none-some q (sym (ap (λ (ps : List Part). slice_get ps i) none) ∙ at));
}

-- Taken in.

pub in_last : (ps : List Part) (p : Part) (v : Sight) → all_in (ps ++ p ∷ []) v ≡ all_in ps (taken_in v p.seat.me.0)
in_last [] p v = refl
in_last (q ∷ qs) p v = ap (λ (u : Sight). taken_in u q.seat.me.0) (in_last qs p v)

pub over_front : (table : TableId) (ps : List Part) (p : Part) → AreOver table (ps ++ p ∷ []) → AreOver table ps × IsOver table p
over_front table ps p over = ((λ i q at. over i q (got_before ps p q i at)), over (length ps) p (got_last ps p))

-- With the next number as it is counted.

pub given_next : (n k : ℕ) (v : Sight) → k ≡ suc n → given_to k v ≡ left_after k (given_to n v)
given_next n k v is = subst (λ (m : ℕ). given_to m v ≡ left_after m (given_to n v)) (sym is) refl

pub dealt_next : (table : TableId) (n k : ℕ) (v : Sight) (parts parts' : List Part) (p : Part) → k ≡ suc n → AreDealt table n v parts → IsDealt table k v p → parts' ≡ parts ++ p ∷ [] → AreDealt table k v parts'
dealt_next table n k v parts parts' p is dealt one longer =
    subst (λ (ps : List Part). AreDealt table k v ps) (sym longer)
    (subst (λ (m : ℕ). AreDealt table m v (parts ++ p ∷ [])) (sym is) (dealt_one table n v parts p dealt (subst (λ (m : ℕ). IsDealt table m v p) is one)))

pub given_place : (n : ℕ) (v : Sight) → (given_to n v).place ≡ v.place
given_place zero v = refl
given_place (suc n) v = given_place n v

pub newcomer_given : (n p : ℕ) (v : Sight) → newcomer p (given_to n v) ≡ newcomer p v
newcomer_given zero p v = refl
newcomer_given (suc n) p v = newcomer_given n p v

-- one part less
pub in_next : (all rest : List Part) (p : Part) (v v' : Sight) → all ≡ rest ++ p ∷ [] → v' ≡ taken_in v p.seat.me.0 → all_in rest v' ≡ all_in all v
in_next all rest p v v' is taken = ap (all_in rest) taken ∙ sym (in_last rest p v) ∙ ap (λ (ps : List Part). all_in ps v) (sym is)
