use Rattle.std.proofs.Common.{◌≡◌, ℕ, List, ◌∷◌, Bool, true, ap, sym, subst, ◌∙◌}
use Rattle.std.specs.Prelude.{◌↔◌, Some, slice_get}
use Rattle.muck_prop.specs.declared.value.PropValue.{PropValue}
use Rattle.muck_prop.proofs.walk.Walk.takes.Goals as goal

first_is : (b : Bool) (es left : List (List (List ℕ) × PropValue)) (p q : List (List ℕ)) (k v : PropValue) → es ≡ (p, k) ∷ left → (b ≡ true ↔ ((p ≡ q) × (k ≡ v))) → (b ≡ true ↔ slice_get es 0 ≡ Some (q, v))
first_is b es left p q k v e is =
    let head : slice_get es 0 ≡ Some (p, k) = ap (λ (xs : List (List (List ℕ) × PropValue)). slice_get xs 0) e in (
      λ yes. let same = is.0 yes in head ∙ (λ i. Some (same.0 i, same.1 i)),
      λ found. let same : Some (p, k) ≡ Some (q, v) = sym head ∙ found in
          let pair : (p, k) ≡ (q, v) = cc in
          is.1 (ap (λ (x : List (List ℕ) × PropValue). x.0) pair, ap (λ (x : List (List ℕ) × PropValue). x.1) pair),
    )

pub returns-clause-first : goal.returns-clause-first
returns-clause-first c =
    let told = subst (λ (v : PropValue). c.is_entry.result ≡ true ↔ ((c.in-Some.segments.now ≡ c.args.path.now) × (v ≡ c.args.value.now))) c.value.ensures c.is_entry.ensures in
    first_is _ _ _ _ _ _ _ (sym c.self.view_is ∙ c.in-Some.ensures.steps) told

pub returns-clause-taken : goal.returns-clause-taken
returns-clause-taken c = λ yes.
    let same = c.is_entry.ensures.0 yes in
    sym c.self.view_is ∙ c.in-Some.ensures.steps ∙ (λ i. (same.0 i, (sym c.value.ensures ∙ same.1) i) ∷ c.next.new.self)
