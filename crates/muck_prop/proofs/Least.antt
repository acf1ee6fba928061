-- The next child is the least of all children after a path.
use Rattle.std.proofs.Common.{◌≡◌, ℕ, Bool, true, false, ◌&&◌, ◌||◌, ◌⊎◌, List, [], ◌∷◌, ◌++◌, bytes_eq, refl, ap, sym, subst, ◌∙◌}
use Rattle.std.proofs.lemmas.Bool.{and_parts}
use mathlib.Core.Logic.{inl, inr}
use mathlib.Core.Bool.{true≢false}
use Rattle.std.specs.Prelude.{Option, None, Some, if◌then◌else◌, is_some, T}
use Rattle.std.specs.Ordering.{is_eq, is_lt, is_gt, eq_by_cmp, ordering_then}
use Rattle.std.specs.Cmp.{tied_itself}
use Rattle.std.specs.declared.cmp.Ordering.TheVariants.{Less, Equal, Greater}
use Rattle.std.specs.List.{AllByRecursion, list_any}
use Rattle.std.specs.List.Sorted.{IsStrictlySortedBy}
use Rattle.std.specs.Map.{keys_of}
use Rattle.std.specs.FinMap.{get, keys, entries, entries_sorted, is_sorted, contains_key-keys}
use Rattle.std.specs.FinMap.Entries.{below_all}
use Rattle.muck_laws.proofs.Options.{some_is}
use Rattle.muck_laws.proofs.Orders.{less_of, then_less}
use Rattle.muck_laws.proofs.Tests.{at_any, later_any}
use Rattle.muck_laws.proofs.Texts.{bytes_equal_itself, same_bytes}
use Rattle.muck_laws.proofs.Truths.{both_of}
use Rattle.muck_prop.specs.declared.value.PropValue.{PropValue}
use Rattle.muck_prop.specs.Order.{segment_cmp, path_cmp, path_cmp_total, is_below, child}
use Rattle.muck_prop.specs.Store.{PropMap, is_dir, is_after, next_among, next_child, IsChild, IsLeastChild}
use Rattle.muck_prop.proofs.Maps.{path_cmp_same}

-- ---- the paths of a map rise

all_above : (k : List (List ℕ)) (es : List (List (List ℕ) × PropValue)) → T (below_all path_cmp k es) → AllByRecursion (λ q. path_cmp k q ≡ Less) (keys_of es)
all_above k [] h = tt
all_above k (e ∷ es) h = let parts = both_of (is_lt (path_cmp k e.0)) (below_all path_cmp k es) h in (less_of _ parts.0, all_above k es parts.1)

rising : (es : List (List (List ℕ) × PropValue)) → T (is_sorted path_cmp es) → IsStrictlySortedBy path_cmp (keys_of es)
unfolding IsStrictlySortedBy
rising [] h = tt
rising (e ∷ es) h = let parts = both_of (below_all path_cmp e.0 es) (is_sorted path_cmp es) h in (all_above e.0 es parts.0, rising es parts.1)

keys_rise : (m : PropMap) → IsStrictlySortedBy path_cmp (keys m)
keys_rise m = rising (entries m) (entries_sorted m)

-- ---- children, by the paths that lead to them

-- a path leads to its child of `dir`
abbrev pub Leads : List (List ℕ) → List (List ℕ) → List (List ℕ) → Type 0
Leads dir c q = (is_below dir q ≡ true) × (c ≡ child dir q)

-- some path of a list does
abbrev pub AnyLeads : List (List ℕ) → List (List ℕ) → List (List (List ℕ)) → Type 0
AnyLeads dir c [] = ⊥
AnyLeads dir c (q ∷ ks) = Leads dir c q ⊎ AnyLeads dir c ks

child_leads : (dir : List (List ℕ)) (name : List ℕ) → Leads dir (dir ++ name ∷ []) (dir ++ name ∷ [])
child_leads [] name = (refl, refl)
child_leads (s ∷ dir) name =
    let rest = child_leads dir name in
    (ap (λ b. b && is_below dir (dir ++ name ∷ [])) (bytes_equal_itself s) ∙ rest.0, ap (λ q. s ∷ q) rest.1)

below_leads : (dir : List (List ℕ)) (name : List ℕ) (q : List (List ℕ)) → is_below (dir ++ name ∷ []) q ≡ true → Leads dir (dir ++ name ∷ []) q
below_leads [] name [] h = cc
below_leads [] name (t ∷ q) h = (refl, ap (λ s. s ∷ []) (same_bytes name t (and_parts (bytes_eq name t) (is_below [] q) h).0))
below_leads (s ∷ dir) name [] h = cc
below_leads (s ∷ dir) name (t ∷ q) h =
    let parts = and_parts (bytes_eq s t) (is_below (dir ++ name ∷ []) q) h in
    let rest = below_leads dir name q parts.1 in
    (ap (λ b. b && is_below dir q) parts.0 ∙ rest.0, (λ i. same_bytes s t parts.0 i ∷ rest.1 i))

any_at : (dir : List (List ℕ)) (name : List ℕ) (ks : List (List (List ℕ))) → list_any (eq_by_cmp path_cmp (dir ++ name ∷ [])) ks ≡ true → AnyLeads dir (dir ++ name ∷ []) ks
any_at dir name [] h = cc
any_at dir name (q ∷ ks) h =
    elim (path_cmp (dir ++ name ∷ []) q) as (λ r. path_cmp (dir ++ name ∷ []) q ≡ r → (is_eq r || list_any (eq_by_cmp path_cmp (dir ++ name ∷ [])) ks) ≡ true → AnyLeads dir (dir ++ name ∷ []) (q ∷ ks)) [
      | Less ↦ λ e more. inr (any_at dir name ks more)
      | Equal ↦ λ e more. inl (subst (Leads dir (dir ++ name ∷ [])) (path_cmp_same _ _ e) (child_leads dir name))
      | Greater ↦ λ e more. inr (any_at dir name ks more)
    ] refl h

any_below : (dir : List (List ℕ)) (name : List ℕ) (ks : List (List (List ℕ))) → list_any (is_below (dir ++ name ∷ [])) ks ≡ true → AnyLeads dir (dir ++ name ∷ []) ks
any_below dir name [] h = cc
any_below dir name (q ∷ ks) h =
    elim (is_below (dir ++ name ∷ []) q) as (λ b. is_below (dir ++ name ∷ []) q ≡ b → (b || list_any (is_below (dir ++ name ∷ [])) ks) ≡ true → AnyLeads dir (dir ++ name ∷ []) (q ∷ ks)) [
      | true ↦ λ e more. inl (below_leads dir name q e)
      | false ↦ λ e more. inr (any_below dir name ks more)
    ] refl h

child_is_led_to : (m : PropMap) (dir c : List (List ℕ)) → IsChild m dir c → AnyLeads dir c (keys m)
child_is_led_to m dir c h =
    subst (λ p. AnyLeads dir p (keys m)) (sym h.path) (elim h.stands as (λ _. AnyLeads dir (dir ++ h.name ∷ []) (keys m)) [
      | inl value ↦ any_at dir h.name (keys m) (sym (contains_key-keys m (dir ++ h.name ∷ [])) ∙ ap (λ p. is_some (get m p)) (sym h.path) ∙ value)
      | inr more ↦ any_below dir h.name (keys m) (ap (λ p. list_any (is_below p) (keys m)) (sym h.path) ∙ more)
    ])

-- ---- and back

-- the last segment of a child
child_ends : (dir q : List (List ℕ)) → is_below dir q ≡ true → (name : List ℕ) × (child dir q ≡ dir ++ name ∷ [])
child_ends [] [] h = cc
child_ends [] (t ∷ q) h = (t, refl)
child_ends (s ∷ dir) [] h = cc
child_ends (s ∷ dir) (t ∷ q) h =
    let parts = and_parts (bytes_eq s t) (is_below dir q) h in
    let rest = child_ends dir q parts.1 in
    (rest.0, (λ i. sym (same_bytes s t parts.0) i ∷ rest.1 i))

-- a path below is its own child or below that
child_or_below : (dir q : List (List ℕ)) → is_below dir q ≡ true → (child dir q ≡ q) ⊎ (is_below (child dir q) q ≡ true)
child_or_below [] [] h = cc
child_or_below [] (t ∷ []) h = inl refl
child_or_below [] (t ∷ u ∷ q) h = inr (ap (λ b. b && true) (bytes_equal_itself t))
child_or_below (s ∷ dir) [] h = cc
child_or_below (s ∷ dir) (t ∷ q) h =
    elim (child_or_below dir q (and_parts (bytes_eq s t) (is_below dir q) h).1) as (λ _. (child (s ∷ dir) (t ∷ q) ≡ t ∷ q) ⊎ (is_below (child (s ∷ dir) (t ∷ q)) (t ∷ q) ≡ true)) [
      | inl same ↦ inl (ap (λ p. t ∷ p) same)
      | inr more ↦ inr (ap (λ b. b && is_below (child dir q) q) (bytes_equal_itself t) ∙ more)
    ]

stands_of : (dir c : List (List ℕ)) (ks : List (List (List ℕ))) → AnyLeads dir c ks → (list_any (eq_by_cmp path_cmp c) ks ≡ true) ⊎ (list_any (is_below c) ks ≡ true)
stands_of dir c [] h = absurd h
stands_of dir c (q ∷ ks) (inl here) =
    elim (child_or_below dir q here.0) as (λ _. (list_any (eq_by_cmp path_cmp c) (q ∷ ks) ≡ true) ⊎ (list_any (is_below c) (q ∷ ks) ≡ true)) [
      | inl same ↦ inl (at_any (eq_by_cmp path_cmp c) q ks (ap (λ p. eq_by_cmp path_cmp p q) (here.1 ∙ same) ∙ ap is_eq (tied_itself path_cmp_total q)))
      | inr more ↦ inr (at_any (is_below c) q ks (ap (λ p. is_below p q) here.1 ∙ more))
    ]
stands_of dir c (q ∷ ks) (inr there) =
    elim (stands_of dir c ks there) as (λ _. (list_any (eq_by_cmp path_cmp c) (q ∷ ks) ≡ true) ⊎ (list_any (is_below c) (q ∷ ks) ≡ true)) [
      | inl value ↦ inl (later_any _ q ks value)
      | inr more ↦ inr (later_any _ q ks more)
    ]

ends_of : (dir c : List (List ℕ)) (ks : List (List (List ℕ))) → AnyLeads dir c ks → (name : List ℕ) × (c ≡ dir ++ name ∷ [])
ends_of dir c [] h = absurd h
ends_of dir c (q ∷ ks) (inl here) = let end = child_ends dir q here.0 in (end.0, here.1 ∙ end.1)
ends_of dir c (q ∷ ks) (inr there) = ends_of dir c ks there

led_to_is_child : (m : PropMap) (dir c : List (List ℕ)) → AnyLeads dir c (keys m) → IsChild m dir c
led_to_is_child m dir c h =
    let end = ends_of dir c (keys m) h in
    record {
      name = end.0;
      path = end.1;
      stands = elim (stands_of dir c (keys m) h) as (λ _. (is_some (get m c) ≡ true) ⊎ (is_dir c m ≡ true)) [
        | inl value ↦ inl (contains_key-keys m c ∙ value)
        | inr more ↦ inr more
      ];
    }

-- ---- the search

-- the children of two paths stand as the paths do
children_rise : (dir q r : List (List ℕ)) → is_below dir q ≡ true → is_below dir r ≡ true → path_cmp q r ≡ Less → is_gt (path_cmp (child dir q) (child dir r)) ≡ false
children_rise [] [] r h g less = cc
children_rise [] (t ∷ q) [] h g less = cc
children_rise [] (t ∷ q) (u ∷ r) h g less =
    elim (then_less (segment_cmp t u) (path_cmp q r) less) as (λ _. is_gt (ordering_then (segment_cmp t u) Equal) ≡ false) [
      | inl more ↦ ap (λ o. is_gt (ordering_then o Equal)) more
      | inr same ↦ ap (λ o. is_gt (ordering_then o Equal)) same.0
    ]
children_rise (s ∷ dir) [] r h g less = cc
children_rise (s ∷ dir) (t ∷ q) [] h g less = cc
children_rise (s ∷ dir) (t ∷ q) (u ∷ r) h g less =
    elim (then_less (segment_cmp t u) (path_cmp q r) less) as (λ _. is_gt (ordering_then (segment_cmp t u) (path_cmp (child dir q) (child dir r))) ≡ false) [
      | inl more ↦ ap (λ o. is_gt (ordering_then o (path_cmp (child dir q) (child dir r)))) more
      | inr same ↦ ap (λ o. is_gt (ordering_then o (path_cmp (child dir q) (child dir r)))) same.0
          ∙ children_rise dir q r (and_parts (bytes_eq s t) (is_below dir q) h).1 (and_parts (bytes_eq s u) (is_below dir r) g).1 same.1
    ]

later_child : (dir q d : List (List ℕ)) (ks : List (List (List ℕ))) → is_below dir q ≡ true → AllByRecursion (λ k. path_cmp q k ≡ Less) ks → AnyLeads dir d ks → is_gt (path_cmp (child dir q) d) ≡ false
later_child dir q d [] is all h = absurd h
later_child dir q d (k ∷ ks) is all (inl here) = ap (λ p. is_gt (path_cmp (child dir q) p)) here.1 ∙ children_rise dir q k is here.0 all.0
later_child dir q d (k ∷ ks) is all (inr there) = later_child dir q d ks is all.1 there

module _ (dir : List (List ℕ)) (after : Option (List (List ℕ))) where
  -- no child is missed where the search ends with none
  none_missed : (c : List (List ℕ)) (ks : List (List (List ℕ))) → next_among dir after ks ≡ None → AnyLeads dir c ks → is_after after c ≡ false
  none_missed c [] e h = absurd h
  none_missed c (q ∷ ks) e h = by (is_below dir q && is_after after (child dir q)) refl e h (none_missed c ks)
    where
      by : (b : Bool) → (is_below dir q && is_after after (child dir q)) ≡ b → (if b then Some (child dir q) else next_among dir after ks) ≡ None → Leads dir c q ⊎ AnyLeads dir c ks → (next_among dir after ks ≡ None → AnyLeads dir c ks → is_after after c ≡ false) → is_after after c ≡ false
      by true test found leads later = cc
      by false test found (inl here) later = ap (is_after after) here.1 ∙ sym (ap (λ b. b && is_after after (child dir q)) here.0) ∙ test
      by false test found (inr there) later = later found there

  -- what the search gives is a child after the path
  gives_child : (c : List (List ℕ)) (ks : List (List (List ℕ))) → next_among dir after ks ≡ Some c → AnyLeads dir c ks × (is_after after c ≡ true)
  gives_child c [] e = cc
  gives_child c (q ∷ ks) e = by (is_below dir q && is_after after (child dir q)) refl e (gives_child c ks)
    where
      by : (b : Bool) → (is_below dir q && is_after after (child dir q)) ≡ b → (if b then Some (child dir q) else next_among dir after ks) ≡ Some c → (next_among dir after ks ≡ Some c → AnyLeads dir c ks × (is_after after c ≡ true)) → (Leads dir c q ⊎ AnyLeads dir c ks) × (is_after after c ≡ true)
      by true test found later =
          let parts = and_parts (is_below dir q) (is_after after (child dir q)) test in
          let same = some_is (child dir q) c found in
          (inl (parts.0, sym same), ap (is_after after) (sym same) ∙ parts.1)
      by false test found later = let rest = later found in (inr rest.0, rest.1)

  -- and the least
  gives_least : (c d : List (List ℕ)) (ks : List (List (List ℕ))) → IsStrictlySortedBy path_cmp ks → next_among dir after ks ≡ Some c → AnyLeads dir d ks → is_after after d ≡ true → is_gt (path_cmp c d) ≡ false
  unfolding IsStrictlySortedBy
  gives_least c d [] sorted e h late = absurd h
  gives_least c d (q ∷ ks) sorted e h late =
      let both = elim (is_below dir q && is_after after (child dir q)) as (λ b. (is_below dir q && is_after after (child dir q)) ≡ b → (if b then Some (child dir q) else next_among dir after ks) ≡ Some c → Leads dir d q ⊎ AnyLeads dir d ks → is_gt (path_cmp c d) ≡ false) [
        | true ↦ λ test found leads.
            let parts = and_parts (is_below dir q) (is_after after (child dir q)) test in
            ap (λ p. is_gt (path_cmp p d)) (sym (some_is (child dir q) c found))
            ∙ elim leads as (λ _. is_gt (path_cmp (child dir q) d) ≡ false) [
              | inl here ↦ ap (λ p. is_gt (path_cmp (child dir q) p)) here.1 ∙ ap is_gt (tied_itself path_cmp_total (child dir q))
              | inr there ↦ later_child dir q d ks parts.0 sorted.0 there
            ]
        | false ↦ λ test found leads. elim leads as (λ _. is_gt (path_cmp c d) ≡ false) [
          | inl here ↦ absurd (true≢false (sym late ∙ ap (is_after after) here.1 ∙ sym (ap (λ b. b && is_after after (child dir q)) here.0) ∙ test))
          | inr there ↦ gives_least c d ks sorted.1 found there late
        ]
      ] in
      both refl e h

pub least_child : (m : PropMap) (dir : List (List ℕ)) (after found : Option (List (List ℕ))) → found ≡ next_child dir after m → IsLeastChild m dir after found
least_child m dir after None e = λ c h. none_missed dir after c (keys m) (sym e) (child_is_led_to m dir c h)
least_child m dir after (Some c) e =
    let given = gives_child dir after c (keys m) (sym e) in
    (led_to_is_child m dir c given.0, given.1, λ d h late. gives_least dir after c d (keys m) (keys_rise m) (sym e) (child_is_led_to m dir d h) late)
