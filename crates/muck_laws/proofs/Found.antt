-- What a list of pairs has for a key.
use Rattle.std.proofs.Common.{Bool, List, None, Option, Some, [], ap, bytes_eq, cond, eqb, eqb-true, false, refl, subst, sym, true, ℕ, ℤ, ◌∙◌, ◌∷◌, ◌≡◌}
use Rattle.std.proofs.lemmas.Bool.{eq-eqb, false≢true}
use Rattle.std.proofs.lemmas.Map.Lookups.{exact_unsigned}
use Rattle.std.specs.BTreeMap.{is_at}
use Rattle.std.specs.Cmp.{eq_by_cmp_equiv, int_cmp_total}
use Rattle.std.specs.List.{list_any}
use Rattle.std.specs.Map.{lookup}
use Rattle.std.specs.Option.{option_eq}
use Rattle.std.specs.Ordering.{eq_by_cmp, int_cmp, is_eq, nat_cmp}
use Rattle.std.specs.declared.cmp.Ordering.{Ordering}
use Rattle.std.specs.declared.cmp.Ordering.TheVariants.{Equal, Greater, Less}
use Rattle.muck_laws.proofs.Texts.{bytes_equivalence}
use Rattle.muck_laws.proofs.Truths.{either_so}

pub at_same : (k x : ℕ) → is_at (nat_cmp k) x ≡ true → k ≡ x
at_same k x h = exact_unsigned k x (equal_from (nat_cmp k x) h)
  where
    equal_from : (r : Ordering) → is_eq r ≡ true → r ≡ Equal
    equal_from Less e = cc
    equal_from Equal e = refl
    equal_from Greater e = cc

-- the first of the numbers, or one of the others
pub later : (k x : ℕ) (xs : List ℕ) → (k ≡ x → ⊥) → list_any (is_at (nat_cmp k)) (x ∷ xs) ≡ true → list_any (is_at (nat_cmp k)) xs ≡ true
later k x xs ne h = either_so (is_at (nat_cmp k) x) (list_any (is_at (nat_cmp k)) xs) (list_any (is_at (nat_cmp k)) xs ≡ true) (λ q. absurd (ne (at_same k x q))) (λ q. q) h

pub lookup_same : {X : Type 0} (f g : List (List ℕ) → Bool) (es : List (List (List ℕ) × X)) → ((path : List (List ℕ)) → f path ≡ g path) → lookup f es ≡ lookup g es
lookup_same {X} f g [] h = refl
lookup_same {X} f g (e ∷ es) h = ap (λ b. cond b (Some e.1) (lookup f es)) (h e.0) ∙ ap (λ (r : Option X). cond (g e.0) (Some e.1) r) (lookup_same f g es h)

pub turned : (k q : ℤ) → is_at (int_cmp k) q ≡ eq_by_cmp int_cmp q k
turned k q = (eq_by_cmp_equiv int_cmp_total).symm k q

pub lookup_equal : {X : Type 0} (es : List (List ℕ × X)) (a b : List ℕ) → bytes_eq a b ≡ true → lookup (bytes_eq a) es ≡ lookup (bytes_eq b) es
lookup_equal [] a b h = refl
lookup_equal (e ∷ es) a b h = ap (λ c. cond c (Some e.1) (lookup (bytes_eq a) es)) (bytes_equivalence.congr a b e.0 h) ∙ ap (λ o. cond (bytes_eq b e.0) (Some e.1) o) (lookup_equal es a b h)

pub leads_false : (o : Option ℕ) (d : ℕ) → option_eq eqb o (Some d) ≡ false → o ≡ Some d → ⊥
leads_false o d h e = let P : Option ℕ → Type 0 = λ t. option_eq eqb t (Some d) ≡ false in false≢true (sym (subst P e h) ∙ eq-eqb d d refl)

-- tests of a link
pub leads_true : (o : Option ℕ) (d : ℕ) → option_eq eqb o (Some d) ≡ true → o ≡ Some d
leads_true None d h = absurd (false≢true h)
leads_true (Some x) d h = ap (λ z. Some z) (eqb-true x d h)
