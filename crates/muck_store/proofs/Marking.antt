-- Marks of none, and of one more.
use Rattle.std.proofs.Common.{◌≡◌, ℕ, ◌+◌, ◌<◌, ◌≤◌, List, [], ◌∷◌, ◌++◌, ◌⊎◌, inl, inr, refl, sym, ◌∙◌, ap, subst, length, set, get_or, replicate, arith, Bool, true, false, cond, eqb, ◌||◌, length-append}
use Rattle.std.proofs.lemmas.Bool.{cases_eq, ne_eqb, eq-eqb, or_right}
use Rattle.std.proofs.lemmas.List.{get_or-set_same, get_or-set_other, get_or-replicate}
use Rattle.std.proofs.Math.ListN.{length-replicate, length-set}
use Rattle.std.proofs.lemmas.List.Folds.{list_any-append, sum_by-replicate}
use Rattle.std.proofs.lemmas.List.Sums.{sum_by-set, count_by-le-length}
use Rattle.std.specs.List.{count_by}
use Rattle.muck_laws.proofs.Truths.{or_false}
use Rattle.spec_live.specs.Chain.{has}
use Rattle.muck_store.specs.inner.Marks.{IsMarked}

pub most_marked : (marks : List Bool) (met : List ℕ) → IsMarked marks met → length met ≤ length marks
most_marked marks met m = subst (λ (n : ℕ). n ≤ length marks) m.count (count_by-le-length (λ mark. mark) marks)

has_none : (k : ℕ) → has k [] ≡ false
unfolding has
has_none k = refl

pub none_marked : (n : ℕ) → IsMarked (replicate n false) []
none_marked n = record {
  each = λ k h. get_or-replicate n k false false (subst (λ (m : ℕ). k < m) (length-replicate n false) h) ∙ sym (has_none k);
  count = sum_by-replicate (λ (mark : Bool). cond mark 1 0) n false ∙ omega arith;
}

has_one_more : (k d : ℕ) (met : List ℕ) → has k (met ++ d ∷ []) ≡ (has k met || (eqb k d || false))
unfolding has
has_one_more k d met = list_any-append (λ (x : ℕ). eqb k x) met (d ∷ [])

pub has_last : (k d : ℕ) (met : List ℕ) → k ≡ d → has k (met ++ d ∷ []) ≡ true
has_last k d met e = has_one_more k d met ∙ or_right (has k met) (eqb k d || false) (or_false (eqb k d) ∙ eq-eqb k d e)

pub has_other : (k d : ℕ) (met : List ℕ) → (k ≡ d → ⊥) → has k (met ++ d ∷ []) ≡ has k met
has_other k d met ne = has_one_more k d met ∙ ap (λ b. has k met || (b || false)) (ne_eqb k d ne) ∙ or_false (has k met)

module _ (marks : List Bool) (met : List ℕ) (d : ℕ) (within : d < length marks) (m : IsMarked marks met) where
  each_more : (k : ℕ) → k < length marks → (k ≡ d) ⊎ (k ≡ d → ⊥) → get_or (set marks d true) k false ≡ has k (met ++ d ∷ [])
  each_more k h (inl e) = subst (λ (j : ℕ). get_or (set marks d true) j false ≡ true) (sym e) (get_or-set_same marks d true false within) ∙ sym (has_last k d met e)
  each_more k h (inr ne) = get_or-set_other marks d k true false ne ∙ m.each k h ∙ sym (has_other k d met ne)

  pub one_marked : has d met ≡ false → IsMarked (set marks d true) (met ++ d ∷ [])
  one_marked fresh = record {
    each = λ k h. each_more k (subst (λ (n : ℕ). k < n) (length-set marks d true) h) (cases_eq k d);
    count =
        let f : Bool → ℕ = λ b. cond b 1 0 in
        let old : f (get_or marks d false) ≡ 0 = ap f (m.each d within ∙ fresh) in
        let sums : count_by (λ (b : Bool). b) (set marks d true) + f (get_or marks d false) ≡ count_by (λ (b : Bool). b) marks + 1 = sum_by-set f marks d true false within in
        let was : count_by (λ (b : Bool). b) marks ≡ length met = m.count in
        omega (arith, length-append met (d ∷ []));
  }
