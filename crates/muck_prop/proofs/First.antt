-- What the first path within a start says of a directory and of its next child.
use Rattle.std.proofs.Common.{◌≡◌, ◌≤◌, ℕ, zero, suc, false, List, [], ◌∷◌, length, take, ap, sym, ◌∙◌, arith, length-append}
use Rattle.std.specs.Prelude.{None, Some}
use Rattle.std.specs.List.{AllByRecursion, list_any, find}
use Rattle.std.specs.List.Sorted.{IsStrictlySortedBy}
use Rattle.std.specs.Map.{keys_of}
use Rattle.std.specs.FinMap.{from_entries}
use Rattle.std.specs.BTreeMap.Range.{is_from_start}
use Rattle.std.specs.declared.ops.Bound.TheVariants.{Included, Excluded}
use Rattle.muck_prop.specs.declared.value.PropValue.{PropValue}
use Rattle.muck_prop.specs.Order.{path_cmp, is_below, child, past}
use Rattle.std.specs.Ordering.{is_lt}
use Rattle.std.proofs.lemmas.List.{length-take}
use Rattle.std.specs.declared.cmp.Ordering.TheVariants.{Less}
use Rattle.muck_prop.specs.Paths.{IsPath, IsSegment, path_text}
use Rattle.muck_prop.specs.Store.{is_dir, next_among, next_child, found_child}
use Rattle.muck_prop.proofs.Maps.{keys_are}
use Rattle.muck_prop.proofs.Sequence.{found_below, any_by_first, next_by_first, after_start_later, after_start_reaches, after_start_passes, past_passes, past_later}

pub dir_by_first : (p : List (List ℕ)) (es : List (List (List ℕ) × PropValue)) → IsStrictlySortedBy path_cmp (keys_of es) → is_dir p (from_entries es) ≡ found_below p (find (is_from_start path_cmp (Excluded p)) (keys_of es))
dir_by_first p es sorted =
    ap (list_any (is_below p)) (keys_are es sorted)
    ∙ any_by_first p (is_from_start path_cmp (Excluded p)) (after_start_later p) (after_start_reaches p) (keys_of es) sorted

-- the first path right after p, where nothing has to be passed
pub next_from_start : (p : List (List ℕ)) (es : List (List (List ℕ) × PropValue)) → IsStrictlySortedBy path_cmp (keys_of es) → next_child p None (from_entries es) ≡ found_child p (find (is_from_start path_cmp (Excluded p)) (keys_of es))
next_from_start p es sorted =
    ap (next_among p None) (keys_are es sorted)
    ∙ next_by_first p (is_from_start path_cmp (Excluded p)) (after_start_later p) None (λ q is. sym (after_start_reaches p q is)) (keys_of es) sorted

-- the same, where what has to be passed isn't after p
pub next_from_before : (p after : List (List ℕ)) (es : List (List (List ℕ) × PropValue)) → is_lt (path_cmp p after) ≡ false → IsStrictlySortedBy path_cmp (keys_of es) → next_child p (Some after) (from_entries es) ≡ found_child p (find (is_from_start path_cmp (Excluded p)) (keys_of es))
next_from_before p after es low sorted =
    ap (next_among p (Some after)) (keys_are es sorted)
    ∙ next_by_first p (is_from_start path_cmp (Excluded p)) (after_start_later p) (Some after) (λ q is. after_start_passes p after q low is) (keys_of es) sorted

-- the first path past all that continues a child
pub next_from_past : (p after : List (List ℕ)) (es : List (List (List ℕ) × PropValue)) → path_cmp p after ≡ Less → IsStrictlySortedBy path_cmp (keys_of es) → next_child p (Some after) (from_entries es) ≡ found_child p (find (is_from_start path_cmp (Included (past (child p after)))) (keys_of es))
next_from_past p after es high sorted =
    ap (next_among p (Some after)) (keys_are es sorted)
    ∙ next_by_first p (is_from_start path_cmp (Included (past (child p after)))) (λ q le. past_later p after q high le) (Some after) (λ q is. past_passes p after q high is) (keys_of es) sorted

-- ---- paths again

text_of_first : (n : ℕ) (p : List (List ℕ)) → length (path_text (take n p)) ≤ length (path_text p)
text_of_first zero p = omega arith
text_of_first (suc n) [] = omega arith
text_of_first (suc zero) (s ∷ []) = omega arith
text_of_first (suc (suc n)) (s ∷ []) = omega arith
text_of_first (suc zero) (s ∷ t ∷ p) = omega (arith, length-append s (47 ∷ path_text (t ∷ p)))
text_of_first (suc (suc n)) (s ∷ t ∷ p) = omega (arith, length-append s (47 ∷ path_text (t ∷ p)), length-append s (47 ∷ path_text (t ∷ take n p)), text_of_first (suc n) (t ∷ p))

segments_of_first : (n : ℕ) (p : List (List ℕ)) → AllByRecursion IsSegment p → AllByRecursion IsSegment (take n p)
segments_of_first zero p h = tt
segments_of_first (suc n) [] h = tt
segments_of_first (suc n) (s ∷ p) h = (h.0, segments_of_first n p h.1)

pub child_is_path : (p q : List (List ℕ)) → IsPath q → IsPath (child p q)
child_is_path p q h = record {
  some = omega (arith, h.some, length-take (suc (length p)) q);
  few = omega (arith, h.few, length-take (suc (length p)) q);
  short = omega (arith, h.short, text_of_first (suc (length p)) q);
  each = segments_of_first (suc (length p)) q h.each;
}
