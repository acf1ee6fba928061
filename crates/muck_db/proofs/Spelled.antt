-- What is cut of an object has a spelling.
use Rattle.std.proofs.Common.{◌≡◌, ℕ, ◌<◌, ◌≤◌, ◌^◌, List, [], ◌∷◌, ◌++◌, true, refl, sym, subst, length, map, arith}
use Rattle.std.specs.Prelude.{All, T, Option, Some, None}
use Rattle.std.specs.List.{AllByRecursion}
use Rattle.std.specs.FinMap.{entries, entries_sorted}
use Rattle.std.specs.FinMap.Entries.{below_all, is_sorted}
use Rattle.std.proofs.lemmas.List.Elements.{All-head, All-tail, All-push}
use Rattle.muck_laws.proofs.Truths.{is_true, left_of, right_of}
use Rattle.muck_model.specs.Bytes.{text_most, lines_most}
use Rattle.muck_prop.specs.Order.{path_cmp}
use Rattle.muck_prop.specs.Store.{PropMap, IsKept}
use Rattle.muck_prop.specs.declared.value.PropValue.{PropValue}
use Rattle.muck_codec.specs.Records.{rises}
use Rattle.muck_codec.specs.declared.stored.Property.{Property}
use Rattle.muck_codec.specs.inner.Stored.{IsText, IsProperty, IsLine, Run, AreProperties, AreLines}
use Rattle.muck_store.specs.Forms.{property_of, properties_of}
use Rattle.muck_db.specs.inner.Kept.{MayHold}

-- Lines.

lines_run : (before : Option (List ℕ)) (lines : List (List ℕ)) → All (IsText 0 text_most) lines → Run (λ line. line) IsLine before lines
lines_run before [] all = tt
lines_run before (line ∷ lines) all = (All-head (IsText 0 text_most) line lines all, lines_run (Some line) lines (All-tail (IsText 0 text_most) line lines all))

pub lines_spelled : (lines : List (List ℕ)) → length lines ≤ lines_most → All (IsText 0 text_most) lines → AreLines lines
lines_spelled lines few all = ((omega arith, few), lines_run None lines all)

-- Properties: each is kept, and they rise.

-- the first stands behind a path
abbrev begins : Option (List (List ℕ)) → List (List (List ℕ) × PropValue) → Type 0
begins before [] = Unit {0}
begins before (e ∷ es) = rises before e.0 ≡ true

begins_behind : (path : List (List ℕ)) (es : List (List (List ℕ) × PropValue)) → T (below_all path_cmp path es) → begins (Some path) es
begins_behind path [] h = tt
begins_behind path (e ∷ es) h = is_true (rises (Some path) e.0) (left_of (rises (Some path) e.0) (below_all path_cmp path es) h)

begins_first : (es : List (List (List ℕ) × PropValue)) → begins None es
begins_first [] = tt
begins_first (e ∷ es) = refl

entries_run : (before : Option (List (List ℕ))) (es : List (List (List ℕ) × PropValue)) → begins before es → T (is_sorted path_cmp es) → AllByRecursion IsKept es → All MayHold (map property_of es)
    → Run (λ p. p.path) IsProperty before (map property_of es)
entries_run before [] first sorted kept held = tt
entries_run before (e ∷ es) first sorted kept held = (
  ((kept.0.path, first), All-head MayHold (property_of e) (map property_of es) held kept.0.value),
  entries_run (Some e.0) es
      (begins_behind e.0 es (left_of (below_all path_cmp e.0 es) (is_sorted path_cmp es) sorted))
      (right_of (below_all path_cmp e.0 es) (is_sorted path_cmp es) sorted)
      kept.1
      (All-tail MayHold (property_of e) (map property_of es) held),
)

pub properties_spelled : (m : PropMap) (ps : List Property) → ps ≡ properties_of m → length ps < 2 ^ 64 → AllByRecursion IsKept (entries m) → All MayHold ps → AreProperties ps
properties_spelled m ps is few kept held =
    let run : Run (λ p. p.path) IsProperty None (properties_of m) = entries_run None (entries m) (begins_first (entries m)) (entries_sorted m) kept (subst (All MayHold) is held) in
    (few, subst (Run (λ p. p.path) IsProperty None) (sym is) run)
