-- What continues a path stands together in the order of paths, right after it.
use Rattle.std.proofs.Common.{◌≡◌, ℕ, Bool, true, false, cond, ◌&&◌, ◌||◌, List, [], ◌∷◌, ◌++◌, bytes_eq, refl, ap, sym, ◌∙◌}
use Rattle.std.proofs.lemmas.Bool.{and_parts}
use mathlib.Core.Logic.{inl, inr}
use Rattle.std.specs.Prelude.{Option, None, Some, if◌then◌else◌}
use Rattle.std.specs.Ordering.{nat_cmp, ordering_then, ordering_reverse, is_eq, is_lt, is_le}
use Rattle.std.specs.Cmp.{alike_right, tied_itself}
use Rattle.std.specs.Cmp.Lexicographic.{texts_ties, nat_list_cmp_total}
use Rattle.std.specs.Cmp.{nat_cmp_total}
use Rattle.std.specs.declared.cmp.Ordering.{Ordering}
use Rattle.std.specs.declared.cmp.Ordering.TheVariants.{Less, Equal, Greater}
use Rattle.std.specs.List.{AllByRecursion, list_any, find}
use Rattle.std.specs.List.Sorted.{IsStrictlySortedBy}
use Rattle.muck_laws.proofs.Orders.{equal_then, is_less, then_less, zero_least}
use Rattle.muck_prop.specs.Order.{segment_cmp, path_cmp, path_cmp_total, is_below, child, past}
use Rattle.muck_prop.specs.Store.{is_after, next_among, found_child}

-- ---- answers of comparisons

pub same_segment : (s t : List ℕ) → bytes_eq s t ≡ true → segment_cmp s t ≡ Equal
same_segment s t h = equal_then (segment_cmp s t) (sym (texts_ties s t) ∙ h)

other_segment : (s t : List ℕ) → segment_cmp s t ≡ Less → bytes_eq s t ≡ false
other_segment s t h = texts_ties s t ∙ ap is_eq h

-- ---- what continues a path

pub below_is_after : (p q : List (List ℕ)) → is_below p q ≡ true → path_cmp p q ≡ Less
below_is_after [] [] h = cc
below_is_after [] (t ∷ q) h = refl
below_is_after (s ∷ p) [] h = cc
below_is_after (s ∷ p) (t ∷ q) h =
    let parts = and_parts (bytes_eq s t) (is_below p q) h in
    ap (λ r. ordering_then r (path_cmp p q)) (same_segment s t parts.0) ∙ below_is_after p q parts.1

-- past a path that isn't below p, but after it, nothing is below p
convex : (p q r : List (List ℕ)) → path_cmp p q ≡ Less → path_cmp q r ≡ Less → is_below p q ≡ false → is_below p r ≡ false
convex [] [] r h g b = cc
convex [] (t ∷ q) r h g b = cc
convex (s ∷ p) [] r h g b = cc
convex (s ∷ p) (t ∷ q) [] h g b = refl
convex (s ∷ p) (t ∷ q) (u ∷ r) h g b =
    elim (then_less (segment_cmp s t) (path_cmp p q) h) as (λ _. (bytes_eq s u && is_below p r) ≡ false) [
      | inl less ↦ apart (elim (then_less (segment_cmp t u) (path_cmp q r) g) as (λ _. segment_cmp s u ≡ Less) [
        | inl more ↦ nat_list_cmp_total.trans s t u less more
        | inr same ↦ sym (alike_right nat_list_cmp_total t u s same.0) ∙ less
      ])
      | inr same ↦ elim (then_less (segment_cmp t u) (path_cmp q r) g) as (λ _. (bytes_eq s u && is_below p r) ≡ false) [
        | inl more ↦ apart (nat_list_cmp_total.congr s t u same.0 ∙ more)
        | inr also ↦ ap (λ x. bytes_eq s u && x) (convex p q r same.1 also.1 (sym (ap (λ x. x && is_below p q) (texts_ties s t ∙ ap is_eq same.0)) ∙ b)) ∙ and_false (bytes_eq s u)
      ]
    ]
  where
    and_false : (x : Bool) → (x && false) ≡ false
    and_false true = refl
    and_false false = refl

    apart : segment_cmp s u ≡ Less → (bytes_eq s u && is_below p r) ≡ false
    apart less = ap (λ x. x && is_below p r) (other_segment s u less)

pub none_below : (p q : List (List ℕ)) (ks : List (List (List ℕ))) → path_cmp p q ≡ Less → is_below p q ≡ false → AllByRecursion (λ k. path_cmp q k ≡ Less) ks → AllByRecursion (λ k. is_below p k ≡ false) ks
none_below p q [] less apart all = tt
none_below p q (k ∷ ks) less apart all = (convex p q k less all.0 apart, none_below p q ks less apart all.1)

-- ---- a search among paths that rise

any_below_none : (p : List (List ℕ)) (ks : List (List (List ℕ))) → AllByRecursion (λ k. is_below p k ≡ false) ks → list_any (is_below p) ks ≡ false
any_below_none p [] h = refl
any_below_none p (k ∷ ks) h = ap (λ b. b || list_any (is_below p) ks) h.0 ∙ any_below_none p ks h.1

next_none : (p : List (List ℕ)) (after : Option (List (List ℕ))) (ks : List (List (List ℕ))) → AllByRecursion (λ k. is_below p k ≡ false) ks → next_among p after ks ≡ None
next_none p after [] h = refl
next_none p after (k ∷ ks) h = ap (λ b. if b && is_after after (child p k) then Some (child p k) else next_among p after ks) h.0 ∙ next_none p after ks h.1

-- whether a path that was found is below p
abbrev pub found_below : List (List ℕ) → Option (List (List ℕ)) → Bool
found_below p None = false
found_below p (Some q) = is_below p q

module _ (p : List (List ℕ)) (start : List (List ℕ) → Bool) (later : (q : List (List ℕ)) → start q ≡ true → path_cmp p q ≡ Less) where
  pub any_by_first : ((q : List (List ℕ)) → is_below p q ≡ true → start q ≡ true) → (ks : List (List (List ℕ))) → IsStrictlySortedBy path_cmp ks → list_any (is_below p) ks ≡ found_below p (find start ks)
  unfolding IsStrictlySortedBy
  any_by_first reach [] sorted = refl
  any_by_first reach (k ∷ ks) sorted =
      elim (start k) as (λ s. start k ≡ s → (is_below p k || list_any (is_below p) ks) ≡ found_below p (cond s (Some k) (find start ks))) [
        | true ↦ λ e. elim (is_below p k) as (λ b. is_below p k ≡ b → (b || list_any (is_below p) ks) ≡ b) [
          | true ↦ λ is. refl
          | false ↦ λ is. any_below_none p ks (none_below p k ks (later k e) is sorted.0)
        ] refl
        | false ↦ λ e. elim (is_below p k) as (λ b. is_below p k ≡ b → (b || list_any (is_below p) ks) ≡ found_below p (find start ks)) [
          | true ↦ λ is. let no : true ≡ false = sym (reach k is) ∙ e in cc
          | false ↦ λ is. any_by_first reach ks sorted.1
        ] refl
      ] refl

  pub next_by_first : (after : Option (List (List ℕ))) → ((q : List (List ℕ)) → is_below p q ≡ true → is_after after (child p q) ≡ start q) → (ks : List (List (List ℕ))) → IsStrictlySortedBy path_cmp ks → next_among p after ks ≡ found_child p (find start ks)
  unfolding IsStrictlySortedBy
  next_by_first after reach [] sorted = refl
  next_by_first after reach (k ∷ ks) sorted =
      elim (is_below p k) as (λ b. is_below p k ≡ b → (if b && is_after after (child p k) then Some (child p k) else next_among p after ks) ≡ found_child p (cond (start k) (Some k) (find start ks))) [
        | true ↦ λ is. elim (start k) as (λ s. start k ≡ s → (if true && is_after after (child p k) then Some (child p k) else next_among p after ks) ≡ found_child p (cond s (Some k) (find start ks))) [
          | true ↦ λ e. ap (λ b. if b then Some (child p k) else next_among p after ks) (reach k is ∙ e) ∙ sym (ap (λ b. if b then Some (child p k) else None) is)
          | false ↦ λ e. ap (λ b. if b then Some (child p k) else next_among p after ks) (reach k is ∙ e) ∙ next_by_first after reach ks sorted.1
        ] refl
        | false ↦ λ is. elim (start k) as (λ s. start k ≡ s → next_among p after ks ≡ found_child p (cond s (Some k) (find start ks))) [
          | true ↦ λ e. next_none p after ks (none_below p k ks (later k e) is sorted.0) ∙ sym (ap (λ b. if b then Some (child p k) else None) is)
          | false ↦ λ e. next_by_first after reach ks sorted.1
        ] refl
      ] refl

-- ---- starts of a search

-- right after p
pub after_start_later : (p q : List (List ℕ)) → is_lt (path_cmp p q) ≡ true → path_cmp p q ≡ Less
after_start_later p q h = is_less (path_cmp p q) h

pub after_start_reaches : (p q : List (List ℕ)) → is_below p q ≡ true → is_lt (path_cmp p q) ≡ true
after_start_reaches p q h = ap is_lt (below_is_after p q h)

child_is_below : (p q : List (List ℕ)) → is_below p q ≡ true → is_below p (child p q) ≡ true
child_is_below [] [] h = cc
child_is_below [] (t ∷ q) h = refl
child_is_below (s ∷ p) [] h = cc
child_is_below (s ∷ p) (t ∷ q) h =
    let parts = and_parts (bytes_eq s t) (is_below p q) h in
    ap (λ b. b && is_below p (child p q)) parts.0 ∙ child_is_below p q parts.1

-- what isn't after another and is before a third
up_to_less : (p q r : List (List ℕ)) → is_lt (path_cmp p q) ≡ false → path_cmp p r ≡ Less → path_cmp q r ≡ Less
up_to_less p q r h g = by (path_cmp p q) refl h
  where
    by : (o : Ordering) → path_cmp p q ≡ o → is_lt o ≡ false → path_cmp q r ≡ Less
    by Less e later = cc
    by Equal e later = sym (path_cmp_total.congr p q r e) ∙ g
    by Greater e later = path_cmp_total.trans q p r (path_cmp_total.antisymm q p ∙ ap ordering_reverse e) g

-- where the path to pass isn't after p, each child of p is
pub after_start_passes : (p after q : List (List ℕ)) → is_lt (path_cmp p after) ≡ false → is_below p q ≡ true → is_after (Some after) (child p q) ≡ is_lt (path_cmp p q)
after_start_passes p after q h is =
    ap is_lt (up_to_less p after (child p q) h (below_is_after p (child p q) (child_is_below p q is)))
    ∙ sym (ap is_lt (below_is_after p q is))

le_first : (r : Ordering) (q : List (List ℕ)) → is_le (ordering_then r (path_cmp [] q)) ≡ is_le r
le_first Less q = refl
le_first Equal [] = refl
le_first Equal (t ∷ q) = refl
le_first Greater q = refl

lt_first : (r : Ordering) (p : List (List ℕ)) → is_lt (ordering_then r (path_cmp p [])) ≡ is_lt r
lt_first Less p = refl
lt_first Equal [] = refl
lt_first Equal (t ∷ p) = refl
lt_first Greater p = refl

le_end : (r : Ordering) (ys : List ℕ) → is_le r ≡ true → is_le (ordering_then r (segment_cmp [] ys)) ≡ true
le_end Less ys h = refl
le_end Equal [] h = refl
le_end Equal (y ∷ ys) h = refl
le_end Greater ys h = h

-- what is after s is not before s with a least byte behind it
successor : (s t : List ℕ) → is_lt (segment_cmp s t) ≡ is_le (segment_cmp (s ++ 0 ∷ []) t)
successor [] [] = refl
successor [] (y ∷ ys) = sym (le_end (nat_cmp 0 y) ys (zero_least y))
successor (x ∷ xs) [] = refl
successor (x ∷ xs) (y ∷ ys) =
    elim (nat_cmp x y) as (λ r. is_lt (ordering_then r (segment_cmp xs ys)) ≡ is_le (ordering_then r (segment_cmp (xs ++ 0 ∷ []) ys))) [
      | Less ↦ refl
      | Equal ↦ successor xs ys
      | Greater ↦ refl
    ]

before_successor : (s : List ℕ) → segment_cmp s (s ++ 0 ∷ []) ≡ Less
before_successor [] = refl
before_successor (x ∷ xs) = ap (λ r. ordering_then r (segment_cmp xs (xs ++ 0 ∷ []))) (tied_itself nat_cmp_total x) ∙ before_successor xs

never_before_none : (p : List (List ℕ)) → path_cmp p [] ≡ Less → ⊥
never_before_none [] h = cc
never_before_none (s ∷ p) h = cc

turned_less : (s t : List ℕ) → segment_cmp s t ≡ Less → segment_cmp t s ≡ Greater
turned_less s t h = nat_list_cmp_total.antisymm t s ∙ ap ordering_reverse h

pub past_passes : (p after q : List (List ℕ)) → path_cmp p after ≡ Less → is_below p q ≡ true → is_after (Some after) (child p q) ≡ is_le (path_cmp (past (child p after)) q)
past_passes [] [] q h is = cc
past_passes [] (a ∷ after) [] h is = cc
past_passes [] (a ∷ after) (t ∷ q) h is = lt_first (segment_cmp a t) after ∙ successor a t ∙ sym (le_first (segment_cmp (a ++ 0 ∷ []) t) q)
past_passes (s ∷ p) [] q h is = cc
past_passes (s ∷ p) (a ∷ after) [] h is = cc
past_passes (s ∷ p) (a ∷ []) (t ∷ q) h is =
    let parts = and_parts (bytes_eq s t) (is_below p q) is in
    let same = same_segment s t parts.0 in
    elim (then_less (segment_cmp s a) (path_cmp p []) h) as (λ _. is_after (Some (a ∷ [])) (t ∷ child p q) ≡ is_le (path_cmp ((a ++ 0 ∷ []) ∷ []) (t ∷ q))) [
      | inl less ↦
          let more = turned_less t a (sym (nat_list_cmp_total.congr s t a same) ∙ less) in
          let past_it = turned_less t (a ++ 0 ∷ []) (nat_list_cmp_total.trans t a (a ++ 0 ∷ []) (sym (nat_list_cmp_total.congr s t a same) ∙ less) (before_successor a)) in
          ap (λ r. is_lt (ordering_then r (path_cmp [] (child p q)))) more ∙ sym (ap (λ r. is_le (ordering_then r (path_cmp [] q))) past_it)
      | inr ends ↦ absurd (never_before_none p ends.1)
    ]
past_passes (s ∷ p) (a ∷ b ∷ after) (t ∷ q) h is =
    let parts = and_parts (bytes_eq s t) (is_below p q) is in
    let same = same_segment s t parts.0 in
    elim (then_less (segment_cmp s a) (path_cmp p (b ∷ after)) h) as (λ _. is_after (Some (a ∷ b ∷ after)) (t ∷ child p q) ≡ is_le (path_cmp (a ∷ past (child p (b ∷ after))) (t ∷ q))) [
      | inl less ↦
          let more = turned_less t a (sym (nat_list_cmp_total.congr s t a same) ∙ less) in
          ap (λ r. is_lt (ordering_then r (path_cmp (b ∷ after) (child p q)))) more ∙ sym (ap (λ r. is_le (ordering_then r (path_cmp (past (child p (b ∷ after))) q))) more)
      | inr goes ↦
          let equal = sym (nat_list_cmp_total.congr s a t goes.0) ∙ same in
          ap (λ r. is_lt (ordering_then r (path_cmp (b ∷ after) (child p q)))) equal
          ∙ past_passes p (b ∷ after) q goes.1 parts.1
          ∙ sym (ap (λ r. is_le (ordering_then r (path_cmp (past (child p (b ∷ after))) q))) equal)
    ]

past_is_later : (p after : List (List ℕ)) → path_cmp p after ≡ Less → path_cmp p (past (child p after)) ≡ Less
past_is_later [] [] h = cc
past_is_later [] (a ∷ after) h = refl
past_is_later (s ∷ p) [] h = cc
past_is_later (s ∷ p) (a ∷ []) h =
    elim (then_less (segment_cmp s a) (path_cmp p []) h) as (λ _. path_cmp (s ∷ p) ((a ++ 0 ∷ []) ∷ []) ≡ Less) [
      | inl less ↦ ap (λ r. ordering_then r (path_cmp p [])) (nat_list_cmp_total.trans s a (a ++ 0 ∷ []) less (before_successor a))
      | inr ends ↦ absurd (never_before_none p ends.1)
    ]
past_is_later (s ∷ p) (a ∷ b ∷ after) h =
    elim (then_less (segment_cmp s a) (path_cmp p (b ∷ after)) h) as (λ _. path_cmp (s ∷ p) (a ∷ past (child p (b ∷ after))) ≡ Less) [
      | inl less ↦ ap (λ r. ordering_then r (path_cmp p (past (child p (b ∷ after))))) less
      | inr goes ↦ ap (λ r. ordering_then r (path_cmp p (past (child p (b ∷ after))))) goes.0 ∙ past_is_later p (b ∷ after) goes.1
    ]

-- what isn't before another that is after p
less_up_to : (p q r : List (List ℕ)) → path_cmp p q ≡ Less → is_le (path_cmp q r) ≡ true → path_cmp p r ≡ Less
less_up_to p q r h g = by (path_cmp q r) refl g
  where
    by : (o : Ordering) → path_cmp q r ≡ o → is_le o ≡ true → path_cmp p r ≡ Less
    by Less e le = path_cmp_total.trans p q r h e
    by Equal e le = sym (alike_right path_cmp_total q r p e) ∙ h
    by Greater e le = cc

pub past_later : (p after q : List (List ℕ)) → path_cmp p after ≡ Less → is_le (path_cmp (past (child p after)) q) ≡ true → path_cmp p q ≡ Less
past_later p after q h le = less_up_to p (past (child p after)) q (past_is_later p after h) le

-- ---- how `past` is made

pub past_push : (p : List (List ℕ)) (s : List ℕ) → past (p ++ s ∷ []) ≡ p ++ (s ++ 0 ∷ []) ∷ []
past_push [] s = refl
past_push (t ∷ []) s = refl
past_push (t ∷ u ∷ p) s = ap (λ q. t ∷ q) (past_push (u ∷ p) s)
