-- What stands at a number after a change, where garbage isn't there.
use Rattle.std.proofs.Common.{◌≡◌, ℕ, ℤ, Bool, true, false, cond, Option, Some, None, inl, inr, refl, sym, subst, List}
use Rattle.std.proofs.lemmas.Bool.{cases_eq}
use Rattle.std.specs.Prelude.{pos, negsuc}
use Rattle.std.specs.Option.{option_map, option_and_then, option_map_or}
use Rattle.muck_model.specs.declared.dbref.Dbref.{Dbref}
use Rattle.muck_model.specs.declared.dbref.Kind.{Kind}
use Rattle.muck_model.specs.declared.dbref.Kind.TheVariants.{Garbage}
use Rattle.spec_live.specs.declared.object.Object.{Object}
use Rattle.spec_live.specs.Objects.{Entry, dbref_of, same, index_at, is_garbage, object_in, kind_in, number_in, object_at}

-- R holds between what was there and what is there
abbrev pub Row : (Object → Object → Type 0) → Option Object → Option Object → Type 0
Row R None None = Unit {0}
Row R None (Some p) = ⊥
Row R (Some o) None = ⊥
Row R (Some o) (Some p) = R o p

pub row_same : (R : Object → Object → Type 0) → ((o : Object) → R o o) → (o : Option Object) → Row R o o
row_same R same None = tt
row_same R same (Some o) = same o

pub row_both : (R S T : Object → Object → Type 0) → ((o p q : Object) → R o p → S p q → T o q) → (o p q : Option Object) → Row R o p → Row S p q → Row T o q
row_both R S T both None None None r s = tt
row_both R S T both None None (Some q) r s = absurd s
row_both R S T both None (Some p) q r s = absurd r
row_both R S T both (Some o) None q r s = absurd r
row_both R S T both (Some o) (Some p) None r s = absurd s
row_both R S T both (Some o) (Some p) (Some q) r s = both o p q r s

-- an object, where it isn't garbage
abbrev pub alive : Object → Option Object
alive o = cond (is_garbage o.kind) None (Some o)

pub seen_at : (es : List Entry) (n : ℕ) → object_at (dbref_of n) es ≡ option_and_then alive (object_in es n)
unfolding object_at number_in kind_in
seen_at es n = by_cases (object_in es n) refl
  where
    by_cases : (q : Option Object) → object_in es n ≡ q →
        option_and_then (object_in es) (cond (is_garbage (option_map_or (λ (o : Object). o.kind) q Garbage)) None (Some n)) ≡ option_and_then alive q
    by_cases None e = refl
    by_cases (Some o) e = elim (is_garbage o.kind) as (λ b. option_and_then (object_in es) (cond b None (Some n)) ≡ cond b None (Some o)) [ true ↦ refl | false ↦ e ]

-- the number of an object that is there
pub number_is : (es : List Entry) (d : Dbref) (n : ℕ) → number_in es d ≡ Some n → d ≡ dbref_of n
unfolding number_in
number_is es d n h = at d.0 h
  where
    at : (z : ℤ) → option_and_then (λ (m : ℕ). cond (is_garbage (kind_in es m)) None (Some m)) (index_at z) ≡ Some n → ◌≡◌ {A = Dbref} (record { 0 = z }) (dbref_of n)
    at (pos m) h = there m (is_garbage (kind_in es m)) h
      where
        there : (m : ℕ) (b : Bool) → cond b None (Some m) ≡ Some n → dbref_of m ≡ dbref_of n
        there m true h = cc
        there m false h = cc
    at (negsuc m) h = cc

-- nothing has a negative number
pub at_negative : (es : List Entry) (k : ℕ) → object_at (record { 0 = negsuc k }) es ≡ None
unfolding object_at number_in
at_negative es k = refl

-- Rows where objects keep their kinds.

kept_alive : (R : Object → Object → Type 0) (f : Object → Object) → ((o : Object) → (f o).kind ≡ o.kind) → ((o : Object) → R o (f o)) → (q : Option Object) →
    Row R (option_and_then alive q) (option_and_then alive (option_map f q))
kept_alive R f kinds h None = tt
kept_alive R f kinds h (Some o) =
    let P : Kind → Type 0 = λ k. Row R (cond (is_garbage o.kind) None (Some o)) (cond (is_garbage k) None (Some (f o))) in
    subst P (sym (kinds o)) (elim (is_garbage o.kind) as (λ b. Row R (cond b None (Some o)) (cond b None (Some (f o)))) [ true ↦ tt | false ↦ h o ])

same_alive : (R : Object → Object → Type 0) → ((o : Object) → R o o) → (p q : Option Object) → q ≡ p → Row R (option_and_then alive p) (option_and_then alive q)
same_alive R same p q e =
    let P : Option Object → Type 0 = λ t. Row R (option_and_then alive p) (option_and_then alive t) in
    subst P (sym e) (row_same R same (option_and_then alive p))

-- from what stands at a number to what is there
pub row_at : (R : Object → Object → Type 0) (es fs : List Entry) (n : ℕ) → Row R (option_and_then alive (object_in es n)) (option_and_then alive (object_in fs n)) →
    Row R (object_at (dbref_of n) es) (object_at (dbref_of n) fs)
row_at R es fs n r =
    let P : Option Object → Option Object → Type 0 = λ s t. Row R s t in
    rw (seen_at es n, seen_at fs n) r

-- where one object is changed
pub rows_changed : (R : Dbref → Object → Object → Type 0) → ((y : Dbref) (o : Object) → R y o o) → (m : ℕ) (f : Object → Object) → ((o : Object) → (f o).kind ≡ o.kind) → ((o : Object) → R (dbref_of m) o (f o)) →
    (es fs : List Entry) → object_in fs m ≡ option_map f (object_in es m) → ((k : ℕ) → (k ≡ m → ⊥) → object_in fs k ≡ object_in es k) → (n : ℕ) → Row (R (dbref_of n)) (object_at (dbref_of n) es) (object_at (dbref_of n) fs)
rows_changed R same m f kinds h es fs here there n = row_at (R (dbref_of n)) es fs n (elim (cases_eq n m) [
  | inl e ↦
      let P : ℕ → Type 0 = λ k. Row (R (dbref_of k)) (option_and_then alive (object_in es k)) (option_and_then alive (object_in fs k)) in
      let Q : Option Object → Type 0 = λ t. Row (R (dbref_of m)) (option_and_then alive (object_in es m)) (option_and_then alive t) in
      subst P (sym e) (subst Q (sym here) (kept_alive (R (dbref_of m)) f kinds h (object_in es m)))
  | inr e ↦ same_alive (R (dbref_of n)) (same (dbref_of n)) (object_in es n) (object_in fs n) (there n e)
])
