-- What leads to a number: lists that begin with it, and what it stands behind.
use Rattle.std.proofs.Common.{◌≡◌, ◌⊎◌, ℕ, List, [], ◌∷◌, Option, Some, None, inl, inr, refl, sym, ◌∙◌, ap, subst, Bool, true, false, not, cond}
use Rattle.std.proofs.lemmas.Bool.{cases_eq, ne_eqb, eq-eqb}
use Rattle.std.specs.Option.{option_and_then}
use Rattle.muck_laws.proofs.Numbers.{same_place}
use Rattle.spec_live.specs.declared.saving.Saving.{Saving}
use Rattle.spec_live.specs.declared.saving.Saving.TheVariants.{Due}
use Rattle.spec_live.specs.Chain.{Member, IsApart, follower, without_number, put_at}
use Rattle.spec_live.specs.Objects.{Entry, is_exit, kind_in, place_in, list_in}
use Rattle.spec_live.specs.Saving.{Links, first_of_list, next_in, links_in, saving_in, same_links, relinked}
use Rattle.spec_live.proofs.Chains.{without_gone}
use Rattle.spec_live.proofs.Lists.{put_same, put_other}
use Rattle.spec_live.proofs.Savings.{saving_relinked}
use Rattle.spec_live.proofs.Dues.{same_equal, saving_linked}
use Rattle.muck_db.specs.inner.Slots.{LeadsTo}

-- What a list leads to is in it.

pub front_member : (d : ℕ) (xs : List ℕ) → first_of_list xs ≡ Some d → Member d xs
unfolding Member
front_member d [] h = absurd (cc h)
front_member d (x ∷ xs) h = let e : x ≡ d = cc h in inl (sym e)

-- what stands behind a number isn't the first
pub follower_behind : (k d x : ℕ) (xs : List ℕ) → follower k (x ∷ xs) ≡ Some d → Member d xs
unfolding Member follower
follower_behind k d x [] h = elim (cases_eq x k) [
  | inl e ↦ let none : ◌≡◌ {A = Option ℕ} None (Some d) = rw (eq-eqb x k e) at h in absurd (cc none)
  | inr ne ↦ let none : ◌≡◌ {A = Option ℕ} None (Some d) = rw (ne_eqb x k ne) at h in absurd (cc none)
]
follower_behind k d x (y ∷ ys) h = elim (cases_eq x k) [
  | inl e ↦ let same : Some y ≡ Some d = rw (eq-eqb x k e) at h in let is : y ≡ d = cc same in inl (sym is)
  | inr ne ↦ inr (follower_behind k d y ys (rw (ne_eqb x k ne) at h))
]

pub follower_member : (k d : ℕ) (xs : List ℕ) → follower k xs ≡ Some d → Member d xs
unfolding Member follower
follower_member k d [] h = absurd (cc h)
follower_member k d (x ∷ xs) h = inr (follower_behind k d x xs h)

no_member : (d : ℕ) → Member d [] → ⊥
unfolding Member
no_member d m = m

apart_head : (x : ℕ) (xs : List ℕ) → IsApart (x ∷ xs) → Member x xs → ⊥
unfolding IsApart
apart_head x xs h = h.0

apart_tail : (x : ℕ) (xs : List ℕ) → IsApart (x ∷ xs) → IsApart xs
unfolding IsApart
apart_tail x xs h = h.1

follower_here : (k x y : ℕ) (ys : List ℕ) → x ≡ k → follower k (x ∷ y ∷ ys) ≡ Some y
unfolding follower
follower_here k x y ys e = rw (eq-eqb x k e) refl

follower_further : (k x : ℕ) (xs : List ℕ) → (x ≡ k → ⊥) → follower k (x ∷ xs) ≡ follower k xs
unfolding follower
follower_further k x xs ne = rw (ne_eqb x k ne) refl

-- A list without the same number twice leads to each from one place.

-- nothing stands before the first
pub first_behind_none : (k d : ℕ) (xs : List ℕ) → IsApart xs → first_of_list xs ≡ Some d → follower k xs ≡ Some d → ⊥
first_behind_none k d [] apart h f = absurd (cc h)
first_behind_none k d (x ∷ xs) apart h f =
    let e : x ≡ d = cc h in
    let M : ℕ → Type 0 = λ z. Member z xs in
    apart_head x xs apart (subst M (sym e) (follower_behind k d x xs f))

-- one number alone stands before another
pub one_before : (k i d : ℕ) (xs : List ℕ) → IsApart xs → follower k xs ≡ Some d → follower i xs ≡ Some d → k ≡ i
one_before k i d [] apart h f = absurd (no_member d (follower_member k d [] h))
one_before k i d (x ∷ []) apart h f = absurd (no_member d (follower_behind k d x [] h))
one_before k i d (x ∷ y ∷ ys) apart h f = elim (cases_eq x k) [
  | inl a ↦ elim (cases_eq x i) [
    | inl b ↦ sym a ∙ b
    | inr b ↦ absurd (first_behind_none i d (y ∷ ys) (apart_tail x (y ∷ ys) apart) (sym (follower_here k x y ys a) ∙ h) (sym (follower_further i x (y ∷ ys) b) ∙ f))
  ]
  | inr a ↦ elim (cases_eq x i) [
    | inl b ↦ absurd (first_behind_none k d (y ∷ ys) (apart_tail x (y ∷ ys) apart) (sym (follower_here i x y ys b) ∙ f) (sym (follower_further k x (y ∷ ys) a) ∙ h))
    | inr b ↦ one_before k i d (y ∷ ys) (apart_tail x (y ∷ ys) apart) (sym (follower_further k x (y ∷ ys) a) ∙ h) (sym (follower_further i x (y ∷ ys) b) ∙ f)
  ]
]

-- A number left out.

without_here : (d x : ℕ) (xs : List ℕ) → x ≡ d → without_number d (x ∷ xs) ≡ without_number d xs
unfolding without_number
without_here d x xs e = rw (eq-eqb x d e) refl

without_other : (d x : ℕ) (xs : List ℕ) → (x ≡ d → ⊥) → without_number d (x ∷ xs) ≡ x ∷ without_number d xs
unfolding without_number
without_other d x xs ne = rw (ne_eqb x d ne) refl

without_none : (d : ℕ) → without_number d [] ≡ []
unfolding without_number
without_none d = refl

front_without : (d : ℕ) (xs : List ℕ) → (first_of_list xs ≡ Some d → ⊥) → first_of_list (without_number d xs) ≡ first_of_list xs
front_without d [] h = ap first_of_list (without_none d)
front_without d (x ∷ xs) h = ap first_of_list (without_other d x xs (λ e. h (ap (λ z. Some z) e)))

front_gone : (d : ℕ) (xs : List ℕ) → first_of_list (without_number d xs) ≡ Some d → ⊥
front_gone d xs h = without_gone d xs (front_member d (without_number d xs) h)

follower_gone : (k d : ℕ) (xs : List ℕ) → follower k (without_number d xs) ≡ Some d → ⊥
follower_gone k d xs h = without_gone d xs (follower_member k d (without_number d xs) h)

follower_without : (k d : ℕ) (xs : List ℕ) → (k ≡ d → ⊥) → (follower k xs ≡ Some d → ⊥) → follower k (without_number d xs) ≡ follower k xs
follower_without k d [] other h = ap (λ l. follower k l) (without_none d)
follower_without k d (x ∷ []) other h = elim (cases_eq x d) [
  | inl e ↦ ap (λ l. follower k l) (without_here d x [] e ∙ without_none d) ∙ sym (follower_further k x [] (λ q. other (sym q ∙ e)))
  | inr ne ↦ ap (λ l. follower k l) (without_other d x [] ne ∙ ap (λ l. x ∷ l) (without_none d))
]
follower_without k d (x ∷ y ∷ ys) other h = elim (cases_eq x d) [
  | inl e ↦
      let further : follower k (x ∷ y ∷ ys) ≡ follower k (y ∷ ys) = follower_further k x (y ∷ ys) (λ q. other (sym q ∙ e)) in
      ap (λ l. follower k l) (without_here d x (y ∷ ys) e) ∙ follower_without k d (y ∷ ys) other (λ q. h (further ∙ q)) ∙ sym further
  | inr ne ↦ ap (λ l. follower k l) (without_other d x (y ∷ ys) ne) ∙ elim (cases_eq x k) [
    | inl a ↦
        let here : follower k (x ∷ y ∷ ys) ≡ Some y = follower_here k x y ys a in
        let stays : y ≡ d → ⊥ = λ q. h (here ∙ ap (λ z. Some z) q) in
        ap (λ l. follower k (x ∷ l)) (without_other d y ys stays) ∙ follower_here k x y (without_number d ys) a ∙ sym here
    | inr a ↦
        let further : follower k (x ∷ y ∷ ys) ≡ follower k (y ∷ ys) = follower_further k x (y ∷ ys) a in
        follower_further k x (without_number d (y ∷ ys)) a ∙ follower_without k d (y ∷ ys) other (λ q. h (further ∙ q)) ∙ sym further
  ]
]

-- a number in front of a list is behind no other
pub follower_put : (w v : Bool) (d to p k : ℕ) (xs : List ℕ) → (k ≡ d → ⊥) → follower k (put_at w to d v p xs) ≡ follower k xs
follower_put w v d to p k xs other = elim (same_place v w p to) [
  | inl e ↦ ap (λ l. follower k l) (put_same w to d v p xs e.0 e.1) ∙ follower_further k d xs (λ q. other (sym q))
  | inr e ↦ ap (λ l. follower k l) (put_other w to d v p xs e)
]

-- The links of an object where another is left out of all lists.

-- whether a link leads to d
pub leads_cases : (d : ℕ) (l : Links) → LeadsTo d l ⊎ (LeadsTo d l → ⊥)
leads_cases d l = elim (is_some l.content) [
  | inl e ↦ inl (inl e)
  | inr e ↦ elim (is_some l.exit) [
    | inl f ↦ inl (inr (inl f))
    | inr f ↦ elim (is_some l.next) [
      | inl g ↦ inl (inr (inr g))
      | inr g ↦ inr (λ h. elim h [ inl q ↦ e q | inr q ↦ elim q [ inl r ↦ f r | inr r ↦ g r ] ])
    ]
  ]
]
  where
    is_some : (o : Option ℕ) → (o ≡ Some d) ⊎ (o ≡ Some d → ⊥)
    is_some None = inr (λ e. absurd (cc e))
    is_some (Some x) = elim (cases_eq x d) [ inl e ↦ inl (ap (λ z. Some z) e) | inr ne ↦ inr (λ e. ne (cc e)) ]

-- what stands behind k where d is left out
unfoldable pub next_without : ℕ → List Entry → ℕ → Option ℕ
next_without d es k = option_and_then (λ p. follower k (without_number d (list_in (is_exit (kind_in es k)) es p))) (place_in es k)

pub record IsWithout (d : ℕ) (es fs : List Entry) (k : ℕ) : Type 0 where
  pub other : k ≡ d → ⊥
  pub fronts : (v : Bool) → first_of_list (list_in v fs k) ≡ first_of_list (without_number d (list_in v es k))
  pub next : next_in fs k ≡ next_without d es k

next_gone : (d : ℕ) (es : List Entry) (k : ℕ) → next_without d es k ≡ Some d → ⊥
unfolding next_without
next_gone d es k h = by_cases (place_in es k) h
  where
    by_cases : (o : Option ℕ) → option_and_then (λ p. follower k (without_number d (list_in (is_exit (kind_in es k)) es p))) o ≡ Some d → ⊥
    by_cases None q = absurd (cc q)
    by_cases (Some p) q = follower_gone k d (list_in (is_exit (kind_in es k)) es p) q

next_stays : (d : ℕ) (es : List Entry) (k : ℕ) → (k ≡ d → ⊥) → (next_in es k ≡ Some d → ⊥) → next_without d es k ≡ next_in es k
unfolding next_without next_in
next_stays d es k other h = by_cases (place_in es k) h
  where
    by_cases : (o : Option ℕ) → (option_and_then (λ p. follower k (list_in (is_exit (kind_in es k)) es p)) o ≡ Some d → ⊥)
        → option_and_then (λ p. follower k (without_number d (list_in (is_exit (kind_in es k)) es p))) o ≡ option_and_then (λ p. follower k (list_in (is_exit (kind_in es k)) es p)) o
    by_cases None q = refl
    by_cases (Some p) q = follower_without k d (list_in (is_exit (kind_in es k)) es p) other q

-- no link leads to it any more
pub led_nowhere : (d : ℕ) (es fs : List Entry) (k : ℕ) → IsWithout d es fs k → LeadsTo d (links_in fs k) → ⊥
unfolding links_in
led_nowhere d es fs k w h = elim h [
  | inl q ↦ front_gone d (list_in false es k) (sym (w.fronts false) ∙ q)
  | inr q ↦ elim q [
    | inl r ↦ front_gone d (list_in true es k) (sym (w.fronts true) ∙ r)
    | inr r ↦ next_gone d es k (sym w.next ∙ r)
  ]
]

-- what didn't lead to it leads where it did
pub led_as_before : (d : ℕ) (es fs : List Entry) (k : ℕ) → IsWithout d es fs k → (LeadsTo d (links_in es k) → ⊥) → links_in fs k ≡ links_in es k
unfolding links_in
led_as_before d es fs k w h =
    let make : Option ℕ → Option ℕ → Option ℕ → Links = λ c x n. record { content = c; exit = x; next = n } in
    ap (λ c. make c (first_of_list (list_in true fs k)) (next_in fs k)) (w.fronts false ∙ front_without d (list_in false es k) (λ q. h (inl q)))
    ∙ ap (λ x. make (first_of_list (list_in false es k)) x (next_in fs k)) (w.fronts true ∙ front_without d (list_in true es k) (λ q. h (inr (inl q))))
    ∙ ap (λ n. make (first_of_list (list_in false es k)) (first_of_list (list_in true es k)) n) (w.next ∙ next_stays d es k w.other (λ q. h (inr (inr q))))

-- The marks of a world that is relinked.

-- what is due stays so
pub relinked_due : (es fs : List Entry) (k : ℕ) → saving_in fs k ≡ Due → saving_in (relinked es fs) k ≡ Due
relinked_due es fs k h = saving_relinked es fs k ∙ by_cases (not (same_links (links_in es k) (links_in fs k)))
  where
    by_cases : (b : Bool) → cond b Due (saving_in fs k) ≡ Due
    by_cases true = refl
    by_cases false = h

-- what led to d is due
relinked_led : (d : ℕ) (es fs : List Entry) (k : ℕ) → IsWithout d es fs k → LeadsTo d (links_in es k) → saving_in (relinked es fs) k ≡ Due
relinked_led d es fs k w h = saving_relinked es fs k ∙ by_cases (same_links (links_in es k) (links_in fs k)) refl
  where
    by_cases : (b : Bool) → same_links (links_in es k) (links_in fs k) ≡ b → cond (not b) Due (saving_in fs k) ≡ Due
    by_cases false e = refl
    by_cases true e =
        let L : Links → Type 0 = λ l. LeadsTo d l in
        absurd (led_nowhere d es fs k w (subst L (same_equal (links_in es k) (links_in fs k) e) h))

-- what is due where it led to d, and otherwise has its mark as it was, is marked so
pub saving_without : (d : ℕ) (es fs : List Entry) (k : ℕ) (s : Saving) → IsWithout d es fs k → saving_in fs k ≡ saving_in es k → (LeadsTo d (links_in es k) → s ≡ Due) → ((LeadsTo d (links_in es k) → ⊥) → s ≡ saving_in es k)
    → s ≡ saving_in (relinked es fs) k
saving_without d es fs k s w kept is_due same = elim (leads_cases d (links_in es k)) [
  | inl h ↦ is_due h ∙ sym (relinked_led d es fs k w h)
  | inr h ↦ same h ∙ sym (saving_linked es fs k (led_as_before d es fs k w h) ∙ kept)
]
