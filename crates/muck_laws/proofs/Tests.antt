-- Which items of a list pass a test, and where the first one stands.
use Rattle.std.proofs.Common.{Bool, List, None, Option, Some, [], ap, arith, cond, drop, false, inl, inr, length, ltb, ltb-false, ltb-true, map, nat_lt, not, refl, rules, slice_index_or, subst, suc, take, true, zero, ℕ, ◌&&◌, ◌++◌, ◌+◌, ◌<◌, ◌||◌, ◌∙◌, ◌∷◌, ◌≡◌, ◌≤◌}
use Rattle.std.proofs.lemmas.Bool.{and_parts, cases_Bool, cond-false, cond-true, cond_both, false≢true, not-true}
use Rattle.std.proofs.lemmas.List.{drop_more}
use Rattle.std.proofs.lemmas.List.Elements.{filter-append}
use Rattle.std.proofs.lemmas.Option.{none-some, same_Some}
use Rattle.std.specs.List.{AllByRecursion, filter, list_all, list_any, position, position_or_len, prefix_len}
use Rattle.std.specs.Option.{unwrap_or}
use Rattle.std.specs.Prelude.{find, slice_get}
use Rattle.muck_laws.proofs.Options.{or_all}

pub all_append : {X : Type 0} (p : X → Bool) (xs ys : List X) → list_all p xs ≡ true → list_all p ys ≡ true → list_all p (xs ++ ys) ≡ true
all_append p [] ys h k = k
all_append p (x ∷ xs) ys h k =
    elim (p x) as (λ t. t && list_all p xs ≡ true → t && list_all p (xs ++ ys) ≡ true) [
      | true ↦ λ e. all_append p xs ys e k
      | false ↦ λ e. absurd (false≢true e)
    ] h

pub all_cons : {X : Type 0} (p : X → Bool) (x : X) (xs : List X) → p x ≡ true → list_all p xs ≡ true → list_all p (x ∷ xs) ≡ true
all_cons p x xs h k = rw h k

pub all_drop : {X : Type 0} (p : X → Bool) (n : ℕ) (xs : List X) → list_all p xs ≡ true → list_all p (drop n xs) ≡ true
all_drop p zero xs h = h
all_drop p (suc n) [] h = refl
all_drop p (suc n) (x ∷ xs) h =
    elim (p x) as (λ t. t && list_all p xs ≡ true → list_all p (drop n xs) ≡ true) [
      | true ↦ λ e. all_drop p n xs e
      | false ↦ λ e. absurd (false≢true e)
    ] h

pub all_head : {X : Type 0} (p : X → Bool) (x : X) (xs : List X) → list_all p (x ∷ xs) ≡ true → p x ≡ true
all_head p x xs h = elim (p x) as (λ t. t && list_all p xs ≡ true → t ≡ true) [ true ↦ λ e. refl | false ↦ λ e. e ] h

pub all_prefix : (p : ℕ → Bool) (xs : List ℕ) → list_all p xs ≡ true → prefix_len p xs ≡ length xs
all_prefix p [] h = refl
all_prefix p (x ∷ xs) h =
    elim (p x) as (λ t. t && list_all p xs ≡ true → cond t (1 + prefix_len p xs) 0 ≡ suc (length xs)) [
      | true ↦ λ e. omega (arith, all_prefix p xs e)
      | false ↦ λ e. absurd (false≢true e)
    ] h

pub all_tail : {X : Type 0} (p : X → Bool) (x : X) (xs : List X) → list_all p (x ∷ xs) ≡ true → list_all p xs ≡ true
all_tail p x xs h = elim (p x) as (λ t. t && list_all p xs ≡ true → list_all p xs ≡ true) [ true ↦ λ e. e | false ↦ λ e. absurd (false≢true e) ] h

pub all_take : {X : Type 0} (p : X → Bool) (n : ℕ) (xs : List X) → list_all p xs ≡ true → list_all p (take n xs) ≡ true
all_take p zero xs h = refl
all_take p (suc n) [] h = refl
all_take p (suc n) (x ∷ xs) h =
    elim (p x) as (λ t. t && list_all p xs ≡ true → t && list_all p (take n xs) ≡ true) [
      | true ↦ λ e. all_take p n xs e
      | false ↦ λ e. absurd (false≢true e)
    ] h

pub prefix_all : (p : ℕ → Bool) (xs : List ℕ) → prefix_len p xs ≡ length xs → list_all p xs ≡ true
prefix_all p [] h = refl
prefix_all p (x ∷ xs) h =
    elim (p x) as (λ t. cond t (1 + prefix_len p xs) 0 ≡ suc (length xs) → t && list_all p xs ≡ true) [
      | true ↦ λ e. prefix_all p xs (omega (arith, e))
      | false ↦ λ e. absurd (omega (arith, e))
    ] h

pub position_within : {X : Type 0} (p : X → Bool) (xs : List X) → position_or_len p xs ≤ length xs
position_within p [] = omega arith
position_within p (x ∷ xs) =
    elim (p x) as (λ b. cond (not b) (1 + position_or_len p xs) 0 ≤ length (x ∷ xs)) [
      | true ↦ omega arith
      | false ↦ omega (arith, position_within p xs)
    ]

pub position_found : {X : Type 0} (p : X → Bool) (xs : List X) → unwrap_or (position p xs) (length xs) ≡ position_or_len p xs
position_found p xs = or_all (position_or_len p xs) (length xs) (position_within p xs)

pub first_at : {X : Type 0} (p : X → Bool) (xs : List X) (at : ℕ) → position p xs ≡ Some at → (position_or_len p xs ≡ at) × (at < length xs)
first_at p xs at =
    let n : ℕ = position_or_len p xs in
    cond_both (nat_lt n (length xs)) (Some n) None (λ o. o ≡ Some at → (n ≡ at) × (at < length xs))
    (λ e h. let same : n ≡ at = cc in (same, omega (arith, ltb-true n (length xs) e)))
    (λ e h. absurd (cc))

pub any_same : (f g : ℕ → Bool) (xs : List ℕ) → ((x : ℕ) → f x ≡ g x) → list_any f xs ≡ list_any g xs
any_same f g [] h = refl
any_same f g (x ∷ xs) h = ap (λ b. b || list_any f xs) (h x) ∙ ap (λ b. g x || b) (any_same f g xs h)

pub filter_first : (f : List ℕ → Bool) (xs ys zs : List (List ℕ)) → filter f (xs ++ (ys ++ zs)) ≡ filter f xs ++ (filter f ys ++ filter f zs)
filter_first f xs ys zs = filter-append f xs (ys ++ zs) ∙ ap (λ (ls : List (List ℕ)). filter f xs ++ ls) (filter-append f ys zs)

pub filter_none : (f : List ℕ → Bool) (xs : List (List ℕ)) → list_all (λ x. not (f x)) xs ≡ true → filter f xs ≡ []
filter_none f [] e = refl
filter_none f (x ∷ xs) e =
    let parts = and_parts (not (f x)) (list_all (λ x. not (f x)) xs) e in
    cond-false _ _ _ (not-true (f x) parts.0) ∙ filter_none f xs parts.1

pub filter_whole : (f : List ℕ → Bool) (xs : List (List ℕ)) → list_all f xs ≡ true → filter f xs ≡ xs
filter_whole f [] e = refl
filter_whole f (x ∷ xs) e =
    let parts = and_parts (f x) (list_all f xs) e in
    cond-true _ _ _ parts.0 ∙ ap (λ (ys : List (List ℕ)). x ∷ ys) (filter_whole f xs parts.1)

-- no place is found where none of them passes
pub position_none : {X : Type 0} (p : X → Bool) (xs : List X) → position p xs ≡ None → length xs ≤ position_or_len p xs
position_none p xs h = ltb-false _ _ (none_of (ltb (position_or_len p xs) (length xs)) (position_or_len p xs) h)
  where
    none_of : (b : Bool) (n : ℕ) → cond b (Some n) None ≡ None → b ≡ false
    none_of true n h = cc
    none_of false n h = refl

pub filter_append : {X : Type 0} (p : X → Bool) (xs ys : List X) → filter p (xs ++ ys) ≡ filter p xs ++ filter p ys
filter_append p [] ys = refl
filter_append p (x ∷ xs) ys = elim (cases_Bool (p x)) [
  | inl e ↦ rw e (ap (λ t. x ∷ t) (filter_append p xs ys))
  | inr e ↦ rw e (filter_append p xs ys)
]

pub filter_no : {X : Type 0} (p : X → Bool) (x : X) (xs : List X) → p x ≡ false → filter p (x ∷ xs) ≡ filter p xs
filter_no p x xs h = rw h refl

pub filter_yes : {X : Type 0} (p : X → Bool) (x : X) (xs : List X) → p x ≡ true → filter p (x ∷ xs) ≡ x ∷ filter p xs
filter_yes p x xs h = rw h refl

-- what `position` answers, or the length where that is nothing
pub position_or : {X : Type 0} (p : X → Bool) (xs : List X) (o : Option ℕ) (n : ℕ) → o ≡ position p xs → n ≡ length xs → unwrap_or o n ≡ position_or_len p xs
position_or p xs o n e l = rw (e, l) (position_found p xs)

pub all_filter : (p q : ℕ → Bool) (xs : List ℕ) → list_all p xs ≡ true → list_all p (filter q xs) ≡ true
all_filter p q [] h = refl
all_filter p q (x ∷ xs) h =
    let rest = all_filter p q xs (all_tail p x xs h) in
    elim (q x) as (λ b. list_all p (cond b (x ∷ filter q xs) (filter q xs)) ≡ true) [
      | true ↦ all_cons p x (filter q xs) (all_head p x xs h) rest
      | false ↦ rest
    ]

pub few_filter : (q : ℕ → Bool) (xs : List ℕ) → length (filter q xs) ≤ length xs
few_filter q [] = omega arith
few_filter q (x ∷ xs) =
    elim (q x) as (λ b. length (cond b (x ∷ filter q xs) (filter q xs)) ≤ suc (length xs)) [
      | true ↦ omega (arith, few_filter q xs)
      | false ↦ omega (arith, few_filter q xs)
    ]

pub at_any : (p : List (List ℕ) → Bool) (q : List (List ℕ)) (ks : List (List (List ℕ))) → p q ≡ true → list_any p (q ∷ ks) ≡ true
at_any p q ks h = ap (λ b. b || list_any p ks) h

pub later_any : (p : List (List ℕ) → Bool) (q : List (List ℕ)) (ks : List (List (List ℕ))) → list_any p ks ≡ true → list_any p (q ∷ ks) ≡ true
later_any p q ks h = either (p q) (list_any p ks) h
  where
    either : (a b : Bool) → b ≡ true → (a || b) ≡ true
    either true b e = refl
    either false b e = e

pub both_hold : {X : Type 0} (P Q : X → Type 0) (xs : List X) → AllByRecursion P xs → AllByRecursion Q xs → AllByRecursion (λ x. P x × Q x) xs
both_hold P Q [] a b = tt
both_hold P Q (x ∷ xs) a b = ((a.0, b.0), both_hold P Q xs a.1 b.1)

pub no_place_before : (p : ℕ → Bool) (bs : List ℕ) → length bs ≤ position_or_len p bs → AllByRecursion (λ b. p b ≡ false) bs
no_place_before p [] h = tt
no_place_before p (b ∷ bs) h =
    elim (p b) as (λ r. p b ≡ r → suc (length bs) ≤ cond (not r) (1 + position_or_len p bs) 0 → AllByRecursion (λ b. p b ≡ false) (b ∷ bs)) [
      | true ↦ λ e no. absurd (omega arith)
      | false ↦ λ e no. (e, no_place_before p bs (omega arith))
    ] refl h

pub no_place : (p : ℕ → Bool) (bs : List ℕ) → position p bs ≡ None → AllByRecursion (λ b. p b ≡ false) bs
no_place p bs h =
    elim (nat_lt (position_or_len p bs) (length bs)) as (λ r. nat_lt (position_or_len p bs) (length bs) ≡ r → cond r (Some (position_or_len p bs)) None ≡ None → AllByRecursion (λ b. p b ≡ false) bs) [
      | true ↦ λ e no. cc
      | false ↦ λ e no. no_place_before p bs (ltb-false _ _ e)
    ] refl h

pub none_passes : (p : ℕ → Bool) (bs : List ℕ) → list_any p bs ≡ false → AllByRecursion (λ b. p b ≡ false) bs
none_passes p [] h = tt
none_passes p (b ∷ bs) h =
    elim (p b) as (λ r. p b ≡ r → (r || list_any p bs) ≡ false → AllByRecursion (λ b. p b ≡ false) (b ∷ bs)) [
      | true ↦ λ e no. cc
      | false ↦ λ e no. (e, none_passes p bs no)
    ] refl h

pub all_get : {X : Type 0} (P : X → Type 0) (xs : List X) (k : ℕ) (x : X) → AllByRecursion P xs → slice_get xs k ≡ Some x → P x
all_get P [] k x h e = absurd (none-some x e)
all_get P (y ∷ ys) zero x h e = subst P (same_Some y x e) h.0
all_get P (y ∷ ys) (suc k) x h e = all_get P ys k x h.1 e

pub found_none : {X : Type 0} (test : X → Bool) (xs : List X) → find test xs ≡ None → list_any test xs ≡ false
found_none test [] e = refl
found_none test (x ∷ xs) e = at (test x) e (found_none test xs)
  where
    at : (b : Bool) → cond b (Some x) (find test xs) ≡ None → (find test xs ≡ None → list_any test xs ≡ false) → (b || list_any test xs) ≡ false
    at true e f = cc
    at false e f = f e

pub none_passes_idling : {X : Type 0} (test : X → Bool) (xs : List X) → filter test xs ≡ [] → list_any test xs ≡ false
none_passes_idling test [] e = refl
none_passes_idling test (x ∷ xs) e = at (test x) e (none_passes_idling test xs)
  where
    at : (b : Bool) → cond b (x ∷ filter test xs) (filter test xs) ≡ [] → (filter test xs ≡ [] → list_any test xs ≡ false) → (b || list_any test xs) ≡ false
    at true e f = cc
    at false e f = f e

pub found_row : {A B : Type 0} → (p : B → Bool) (f : A → B) (xs : List A) (i : ℕ) (d : A) → i < length xs → p (f (slice_index_or xs i d)) ≡ true → find p (map f (drop i xs)) ≡ Some (f (slice_index_or xs i d))
found_row p f xs i d h e = rw (drop_more xs i d h, e) (search rules)
