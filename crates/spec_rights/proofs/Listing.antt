-- What may become of the lists of contents and of exits.
use Rattle.std.proofs.Common.{◌≡◌, ℕ, Bool, true, false, List, [], refl, sym, ◌∙◌, ap, subst, Option, Some, None, inl, inr}
use Rattle.std.specs.Prelude.{map, ◌||◌, slice_get}
use Rattle.std.specs.Option.{option_map, option_map_or}
use Rattle.std.proofs.lemmas.Bool.{cases_eq, or_left}
use Rattle.std.proofs.lemmas.Option.{slice_get-map}
use Rattle.spec_live.specs.declared.object.Object.{Object}
use Rattle.spec_live.specs.Objects.{Entry, dbref_of, is_exit, entry_list, list_in, kind_in, object_at, changed_at}
use Rattle.spec_live.specs.Moving.{left_out, put_first, with_place, set_down, moved}
use Rattle.spec_live.proofs.Lists.{get_changed_same}
use Rattle.spec_live.proofs.Savings.{list_relinked}
use Rattle.spec_live.proofs.Readers.{list_elsewhere, list_changed, list_left}
use Rattle.spec_rights.specs.Licence.{Judge, place_open, Reordered, as_before, leaves, empties, comes, front_open, SameLists}
use Rattle.spec_rights.proofs.Lookups.{Row}

-- One list.

pub reordered_both : (may : ℕ → Bool) (xs ys zs : List ℕ) → Reordered may xs ys → Reordered may ys zs → Reordered may xs zs
reordered_both may xs ys zs r as_before = r
reordered_both may xs ys zs r (leaves x s) = leaves x (reordered_both may xs ys _ r s)
reordered_both may xs ys zs r (empties s) = empties (reordered_both may xs ys _ r s)
reordered_both may xs ys zs r (comes x h s) = comes x h (reordered_both may xs ys _ r s)

reordered_more : (may more : ℕ → Bool) (xs ys : List ℕ) → ((x : ℕ) → may x ≡ true → more x ≡ true) → Reordered may xs ys → Reordered more xs ys
reordered_more may more xs ys h as_before = as_before
reordered_more may more xs ys h (leaves x s) = leaves x (reordered_more may more xs _ h s)
reordered_more may more xs ys h (empties s) = empties (reordered_more may more xs _ h s)
reordered_more may more xs ys h (comes x k s) = comes x (h x k) (reordered_more may more xs _ h s)

abbrev Kept : (ℕ → Bool) → List ℕ → Bool → (Entry → Entry) → Entry → Type 0
Kept may xs v f e = Reordered may xs (entry_list v e) → Reordered may xs (entry_list v (f e))

abbrev At : (ℕ → Bool) → List ℕ → Bool → Option Entry → Type 0
At may xs v q = Reordered may xs (option_map_or (entry_list v) q [])

kept_at : (may : ℕ → Bool) (xs : List ℕ) (v : Bool) (f : Entry → Entry) → ((e : Entry) → Kept may xs v f e) → (q : Option Entry) → At may xs v q → At may xs v (option_map f q)
kept_at may xs v f h None r = r
kept_at may xs v f h (Some e) r = h e r

-- all entries are changed
pub reordered_all : (may : ℕ → Bool) (xs : List ℕ) (v : Bool) (k : ℕ) (f : Entry → Entry) (es : List Entry) → ((e : Entry) → Kept may xs v f e) → Reordered may xs (list_in v es k) → Reordered may xs (list_in v (map f es) k)
unfolding list_in
reordered_all may xs v k f es h r = subst (At may xs v) (sym (slice_get-map f es k)) (kept_at may xs v f h (slice_get es k) r)

-- one entry is
pub reordered_one : (may : ℕ → Bool) (xs : List ℕ) (v : Bool) (n k : ℕ) (f : Entry → Entry) (es : List Entry) → (k ≡ n → (e : Entry) → Kept may xs v f e) → Reordered may xs (list_in v es k) → Reordered may xs (list_in v (changed_at n f es) k)
unfolding list_in
reordered_one may xs v n k f es h r = elim (cases_eq k n) [
  | inl e ↦
      let P : ℕ → Type 0 = λ m. At may xs v (slice_get es m) → At may xs v (slice_get (changed_at n f es) m) in
      let here : P n = λ t. subst (At may xs v) (sym (get_changed_same es n f)) (kept_at may xs v f (h e) (slice_get es n) t) in
      subst P (sym e) here r
  | inr ne ↦
      let Q : List ℕ → Type 0 = λ l. Reordered may xs l in
      subst Q (sym (list_elsewhere v n k f es ne)) r
]

pub reordered_left : (may : ℕ → Bool) (xs : List ℕ) (v : Bool) (d k : ℕ) (es : List Entry) → Reordered may xs (list_in v es k) → Reordered may xs (list_in v (map (left_out d) es) k)
reordered_left may xs v d k es r = let Q : List ℕ → Type 0 = λ l. Reordered may xs l in subst Q (sym (list_left v d k es)) (leaves d r)

put_kept : (may : ℕ → Bool) (xs : List ℕ) (w v : Bool) (d : ℕ) → may d ≡ true → (e : Entry) → Kept may xs v (put_first w d) e
put_kept may xs true true d h e r = comes d h r
put_kept may xs false false d h e r = comes d h r
put_kept may xs true false d h e r = r
put_kept may xs false true d h e r = r

pub reordered_moved : (may : ℕ → Bool) (xs : List ℕ) (v : Bool) (d to k : ℕ) (es : List Entry) → (k ≡ to → may d ≡ true) → Reordered may xs (list_in v es k) → Reordered may xs (list_in v (moved d to es) k)
unfolding moved set_down
reordered_moved may xs v d to k es h r =
    let m : List Entry = map (left_out d) es in
    let w : Bool = is_exit (kind_in es d) in
    let Q : List ℕ → Type 0 = λ l. Reordered may xs l in
    subst Q (sym (list_relinked v es (set_down d to es) k ∙ list_changed v d k (with_place to) (changed_at to (put_first w d) m))) (reordered_one may xs v to k (put_first w d) m (λ e x. put_kept may xs w v d (h e) x) (reordered_left may xs v d k es r))

-- All lists.

pub lists_alike : (j : Judge) (es fs : List Entry) → ((v : Bool) (k : ℕ) → list_in v fs k ≡ list_in v es k) → SameLists j es fs
lists_alike j es fs e v k = let Q : List ℕ → Type 0 = λ l. Reordered (front_open j es k) (list_in v es k) l in subst Q (sym (e v k)) as_before

pub lists_itself : (j : Judge) (es : List Entry) → SameLists j es es
lists_itself j es v k = as_before

-- what wasn't there before nothing was lost, wasn't there
absent : (R : Object → Object → Type 0) (p q : Option Object) → Row R p q → option_map_or (λ (o : Object). false) q true ≡ option_map_or (λ (o : Object). false) p true
absent R None None r = refl
absent R None (Some o) r = absurd r
absent R (Some o) None r = absurd r
absent R (Some o) (Some p) r = refl

pub lists_both : (j : Judge) (R : ℕ → Object → Object → Type 0) (es fs gs : List Entry) → ((n : ℕ) → Row (R n) (object_at (dbref_of n) es) (object_at (dbref_of n) fs)) → SameLists j es fs → SameLists j fs gs → SameLists j es gs
lists_both j R es fs gs rows r s v k =
    let more : (x : ℕ) → front_open j fs k x ≡ true → front_open j es k x ≡ true =
    λ x h. ap (λ b. place_open j (dbref_of x) (dbref_of k) || b) (sym (absent (R x) _ _ (rows x))) ∙ h in
    reordered_both (front_open j es k) _ _ _ (r v k) (reordered_more (front_open j fs k) (front_open j es k) _ _ more (s v k))

-- x came to a place
pub lists_moved : (j : Judge) (x to : ℕ) (es : List Entry) → place_open j (dbref_of x) (dbref_of to) ≡ true → SameLists j es (moved x to es)
lists_moved j x to es h v k = reordered_moved (front_open j es k) _ v x to k es (λ e. may e) as_before
  where
    may : k ≡ to → front_open j es k x ≡ true
    may e = or_left _ _ (ap (λ (m : ℕ). place_open j (dbref_of x) (dbref_of m)) e ∙ h)
