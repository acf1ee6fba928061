-- What continues a directory: the rests of the paths, and where they stand.
use Rattle.std.proofs.Common.{◌≡◌, ◌≤◌, ◌<◌, bytes_eq, ℕ, zero, suc, Bool, true, false, cond, ◌&&◌, List, [], ◌∷◌, ◌++◌, map, length, drop, ap, sym, refl, ◌∙◌, arith, length-append, append_assoc}
use Rattle.std.specs.List.{AllByRecursion, filter}
use Rattle.std.specs.List.Sorted.{IsStrictlySortedBy}
use Rattle.std.specs.Map.{keys_of}
use Rattle.std.specs.BTreeMap.Range.{entries_between}
use Rattle.std.specs.declared.ops.Bound.TheVariants.{Excluded, Unbounded}
use Rattle.std.specs.FinMap.{from_entries, entries}
use Rattle.std.specs.Ordering.{is_lt}
use Rattle.std.proofs.lemmas.List.{length-drop}
use Rattle.muck_laws.proofs.Orders.{is_less}
use Rattle.muck_prop.specs.declared.props.Listed.{Listed}
use Rattle.muck_prop.specs.declared.value.PropValue.{PropValue}
use Rattle.muck_prop.specs.Order.{path_cmp, is_below}
use Rattle.muck_prop.specs.Paths.{IsPath, IsSegment, path_text}
use Rattle.muck_prop.specs.Store.{IsKept, path_behind, listed_below}
use Rattle.muck_prop.proofs.Maps.{entries_are}
use Rattle.muck_prop.proofs.Sequence.{none_below, after_start_reaches}

-- ---- the rest of a path

text_of_rest : (n : ℕ) (p : List (List ℕ)) → length (path_text (drop n p)) ≤ length (path_text p)
text_of_rest zero p = omega arith
text_of_rest (suc n) [] = omega arith
text_of_rest (suc zero) (s ∷ []) = omega arith
text_of_rest (suc (suc n)) (s ∷ []) = omega arith
text_of_rest (suc n) (s ∷ t ∷ p) = omega (arith, length-append s (47 ∷ path_text (t ∷ p)), text_of_rest n (t ∷ p))

segments_of_rest : (n : ℕ) (p : List (List ℕ)) → AllByRecursion IsSegment p → AllByRecursion IsSegment (drop n p)
segments_of_rest zero p h = h
segments_of_rest (suc n) [] h = h
segments_of_rest (suc n) (s ∷ p) h = segments_of_rest n p h.1

pub rest_is_path : (n : ℕ) (p : List (List ℕ)) → n < length p → IsPath p → IsPath (drop n p)
rest_is_path n p deeper h = record {
  some = omega (arith, length-drop n p);
  few = omega (arith, h.few, length-drop n p);
  short = omega (arith, h.short, text_of_rest n p);
  each = segments_of_rest n p h.each;
}

pub below_is_deeper : (p q : List (List ℕ)) → is_below p q ≡ true → length p < length q
below_is_deeper [] [] h = cc
below_is_deeper [] (t ∷ q) h = omega arith
below_is_deeper (s ∷ p) [] h = cc
below_is_deeper (s ∷ p) (t ∷ q) h = omega (arith, below_is_deeper p q (snd (bytes_eq s t) (is_below p q) h))
  where
    snd : (a b : Bool) → (a && b) ≡ true → b ≡ true
    snd true b h = h
    snd false b h = cc

-- ---- where they stand

abbrev pub goes_on : List (List ℕ) → List (List ℕ) × PropValue → Bool
goes_on dir e = is_below dir e.0

-- those below the directory, up to the first that isn't
abbrev pub first_below : List (List ℕ) → List (List (List ℕ) × PropValue) → List (List (List ℕ) × PropValue)
first_below dir [] = []
first_below dir (e ∷ es) = cond (is_below dir e.0) (e ∷ first_below dir es) []

none_left : (dir : List (List ℕ)) (es : List (List (List ℕ) × PropValue)) → AllByRecursion (λ k. is_below dir k ≡ false) (keys_of es) → filter (goes_on dir) es ≡ []
none_left dir [] h = refl
none_left dir (e ∷ es) h = ap (λ b. cond b (e ∷ filter (goes_on dir) es) (filter (goes_on dir) es)) h.0 ∙ none_left dir es h.1

-- among the entries right after the directory, those below it come first
pub stand_together : (dir : List (List ℕ)) (es : List (List (List ℕ) × PropValue)) → IsStrictlySortedBy path_cmp (keys_of es) → first_below dir (entries_between path_cmp (Excluded dir) Unbounded es) ≡ filter (goes_on dir) es
unfolding IsStrictlySortedBy
stand_together dir [] sorted = refl
stand_together dir (e ∷ es) sorted =
    let later = entries_between path_cmp (Excluded dir) Unbounded es in
    let found = filter (goes_on dir) es in
    elim (is_lt (path_cmp dir e.0)) as (λ s. is_lt (path_cmp dir e.0) ≡ s → first_below dir (cond (s && true) (e ∷ later) later) ≡ cond (is_below dir e.0) (e ∷ found) found) [
      | true ↦ λ after. elim (is_below dir e.0) as (λ b. is_below dir e.0 ≡ b → cond b (e ∷ first_below dir later) [] ≡ cond b (e ∷ found) found) [
        | true ↦ λ is. ap (λ fs. e ∷ fs) (stand_together dir es sorted.1)
        | false ↦ λ is. sym (none_left dir es (none_below dir e.0 (keys_of es) (is_less (path_cmp dir e.0) after) is sorted.0))
      ] refl
      | false ↦ λ before. elim (is_below dir e.0) as (λ b. is_below dir e.0 ≡ b → first_below dir later ≡ cond b (e ∷ found) found) [
        | true ↦ λ is. let no : false ≡ true = sym before ∙ after_start_reaches dir e.0 is in cc
        | false ↦ λ is. stand_together dir es sorted.1
      ] refl
    ] refl

pub kept_between : (dir : List (List ℕ)) (es : List (List (List ℕ) × PropValue)) → AllByRecursion IsKept es → AllByRecursion IsKept (entries_between path_cmp (Excluded dir) Unbounded es)
kept_between dir [] kept = tt
kept_between dir (e ∷ es) kept =
    elim (is_lt (path_cmp dir e.0)) as (λ b. AllByRecursion IsKept (cond (b && true) (e ∷ entries_between path_cmp (Excluded dir) Unbounded es) (entries_between path_cmp (Excluded dir) Unbounded es))) [
      | true ↦ (kept.0, kept_between dir es kept.1)
      | false ↦ kept_between dir es kept.1
    ]

-- every path continues the top
pub all_below_top : (es : List (List (List ℕ) × PropValue)) → AllByRecursion IsKept es → filter (goes_on []) es ≡ es
all_below_top [] kept = refl
all_below_top (([], v) ∷ es) kept = let no : 0 < 0 = kept.0.path.some in absurd (omega arith)
all_below_top ((s ∷ p, v) ∷ es) kept = ap (λ fs. (s ∷ p, v) ∷ fs) (all_below_top es kept.1)

-- ---- a walk over them

-- the list, and what still comes of the entries that are left, is the whole of it
pub record IsListed (dir : List (List ℕ)) (es left : List (List (List ℕ) × PropValue)) (list : List Listed) : Type 0 where
  pub whole : list ++ map (path_behind (length dir)) (first_below dir left) ≡ map (path_behind (length dir)) (filter (goes_on dir) es)
  pub kept : AllByRecursion IsKept left

pub listing_begins : (dir : List (List ℕ)) (es : List (List (List ℕ) × PropValue)) → IsStrictlySortedBy path_cmp (keys_of es) → AllByRecursion IsKept es → IsListed dir es (entries_between path_cmp (Excluded dir) Unbounded es) []
listing_begins dir es sorted kept = record {
  whole = ap (map (path_behind (length dir))) (stand_together dir es sorted);
  kept = kept_between dir es kept;
}

pub listing_goes : (dir : List (List ℕ)) (es : List (List (List ℕ) × PropValue)) (e : List (List ℕ) × PropValue) (left : List (List (List ℕ) × PropValue)) (list : List Listed) → is_below dir e.0 ≡ true → IsListed dir es (e ∷ left) list → IsListed dir es left (list ++ path_behind (length dir) e ∷ [])
listing_goes dir es e left list is h = record {
  whole =
      append_assoc list (path_behind (length dir) e ∷ []) (map (path_behind (length dir)) (first_below dir left))
      ∙ ap (λ b. list ++ map (path_behind (length dir)) (cond b (e ∷ first_below dir left) [])) (sym is)
      ∙ h.whole;
  kept = h.kept.1;
}

-- ---- the map

pub listed_is : (dir : List (List ℕ)) (es : List (List (List ℕ) × PropValue)) → IsStrictlySortedBy path_cmp (keys_of es) → map (path_behind (length dir)) (filter (goes_on dir) es) ≡ listed_below dir (from_entries es)
unfolding listed_below
listed_is dir es sorted = ap (λ fs. map (path_behind (length dir)) (filter (goes_on dir) fs)) (sym (entries_are es sorted))

pub all_is : (es : List (List (List ℕ) × PropValue)) → IsStrictlySortedBy path_cmp (keys_of es) → AllByRecursion IsKept es → map (path_behind 0) (filter (goes_on []) es) ≡ map (path_behind 0) (entries (from_entries {R = path_cmp} es))
all_is es sorted kept = ap (map (path_behind 0)) (all_below_top es kept ∙ sym (entries_are es sorted))
