-- What leaves the sources of objects alone, and what tells of those that it changes.
use Rattle.std.proofs.Common.{◌≡◌, ℕ, zero, suc, ℤ, pos, negsuc, Bool, true, false, cond, List, [], ◌∷◌, refl, sym, ◌∙◌, ap, Option, Some, None, inl, inr}
use Rattle.std.specs.Prelude.{◌⊎◌, map, is_some, slice_get}
use Rattle.std.specs.Option.{option_map, option_map_or, option_and_then}
use Rattle.std.proofs.lemmas.Option.{slice_get-map}
use Rattle.muck_model.specs.declared.dbref.Dbref.{Dbref}
use Rattle.muck_model.specs.declared.dbref.Kind.{Kind}
use Rattle.muck_model.specs.declared.dbref.Kind.TheVariants.{Garbage}
use Rattle.spec_live.specs.declared.object.Object.{Object}
use Rattle.spec_live.specs.declared.saving.Saving.{Saving}
use Rattle.spec_live.specs.Saving.{all_saving}
use Rattle.spec_live.specs.Objects.{Entry, dbref_of, index_of, is_garbage, kind_in, mark_in, number_in, object_at, object_in}
use Rattle.spec_live.specs.Stood.{stilled}
use Rattle.spec_live.proofs.Tracing.{object_stilled}
use Rattle.spec_live.proofs.Savings.{object_resaved}
use Rattle.spec_rights.proofs.Lookups.{at_negative}
use Rattle.spec_rights.proofs.Telling.{Told}
use Rattle.spec_mpi.specs.Touching.{without_props}
use Rattle.spec_prims.specs.Asking.{object_numbered}
use Rattle.muck_library.specs.Programs.{source_in}
use Rattle.spec_events.specs.Following.{is_marked}

abbrev pub SameSources : List Entry → List Entry → Type 0
SameSources es fs = (d : Dbref) → source_in fs d ≡ source_in es d

pub same_objects : (es fs : List Entry) → fs ≡ es → SameSources es fs
same_objects es fs e d = ap (λ os. source_in os d) e

pub source_as : (d : Dbref) (es fs : List Entry) → object_at d fs ≡ object_at d es → source_in fs d ≡ source_in es d
unfolding source_in
source_as d es fs e = ap (λ (o : Option Object). option_map_or (λ o. o.lines) o []) e

-- Of each object the source is what it was, or something is to be told of it.

abbrev pub IsLined : List Entry → List Entry → Type 0
IsLined es fs = (d : Dbref) → (source_in fs d ≡ source_in es d) ⊎ ((n : ℕ) × (d ≡ dbref_of n) × (is_marked n fs ≡ true))

pub lined_same : (es fs : List Entry) → SameSources es fs → IsLined es fs
lined_same es fs h d = inl (h d)

marked_in : (es : List Entry) (n : ℕ) → is_some (mark_in es n) ≡ true → is_marked n es ≡ true
unfolding mark_in
marked_in [] zero h = h
marked_in [] (suc n) h = h
marked_in (e ∷ es) zero h = h
marked_in (e ∷ es) (suc n) h = marked_in es n h

pub lined_told : (es fs : List Entry) → Told es fs → IsLined es fs
unfolding source_in
lined_told es fs t d = at d.0
  where
    at : (z : ℤ) → (source_in fs (object_numbered z) ≡ source_in es (object_numbered z)) ⊎ ((n : ℕ) × (object_numbered z ≡ dbref_of n) × (is_marked n fs ≡ true))
    at (pos n) = elim (t.source n) [ inl e ↦ inl e | inr m ↦ inr (n, refl, marked_in fs n m) ]
    at (negsuc k) = inl (ap (λ (o : Option Object). option_map_or (λ o. o.lines) o []) (at_negative fs k ∙ sym (at_negative es k)))

-- How objects stand to the dumps is nothing of their sources.

at_by : (es fs : List Entry) (n : ℕ) → object_in fs n ≡ object_in es n → (b c : Bool) → b ≡ c → option_and_then (object_in fs) (cond b None (Some n)) ≡ option_and_then (object_in es) (cond c None (Some n))
at_by es fs n h true true e = refl
at_by es fs n h false false e = h
at_by es fs n h true false e = absurd cc
at_by es fs n h false true e = absurd cc

read_alike : (es fs : List Entry) → ((n : ℕ) → object_in fs n ≡ object_in es n) → (d : Dbref) → object_at d fs ≡ object_at d es
unfolding object_at number_in kind_in
read_alike es fs h d = at (index_of d)
  where
    at : (o : Option ℕ) → option_and_then (object_in fs) (option_and_then (λ n. cond (is_garbage (option_map_or (λ (o : Object). o.kind) (object_in fs n) Garbage)) None (Some n)) o) ≡ option_and_then (object_in es) (option_and_then (λ n. cond (is_garbage (option_map_or (λ (o : Object). o.kind) (object_in es n) Garbage)) None (Some n)) o)
    at None = refl
    at (Some n) = at_by es fs n (h n) _ _ (ap (λ q. is_garbage (option_map_or (λ (o : Object). o.kind) q Garbage)) (h n))

pub saved_sources : (f : Saving → Saving) (es : List Entry) → SameSources es (all_saving f es)
saved_sources f es d = source_as d es (all_saving f es) (read_alike es (all_saving f es) (λ n. object_resaved f n es) d)

pub stilled_sources : (es : List Entry) → SameSources es (stilled es)
stilled_sources es d = source_as d es (stilled es) (read_alike es (stilled es) (λ n. object_stilled es n) d)

-- What touches notes alone leaves each source.

abbrev kind_at : List Entry → ℕ → Kind
kind_at es n = option_map_or (λ (o : Object). o.kind) (object_in es n) Garbage

abbrev lines_at : List Entry → ℕ → List (List ℕ)
lines_at es n = option_map_or (λ (o : Object). o.lines) (object_in es n) []

lines_by : (es fs : List Entry) (n : ℕ) → lines_at fs n ≡ lines_at es n → (b c : Bool) → b ≡ c →
    option_map_or (λ (o : Object). o.lines) (option_and_then (object_in fs) (cond b None (Some n))) [] ≡ option_map_or (λ (o : Object). o.lines) (option_and_then (object_in es) (cond c None (Some n))) []
lines_by es fs n h true true e = refl
lines_by es fs n h false false e = h
lines_by es fs n h true false e = absurd cc
lines_by es fs n h false true e = absurd cc

lines_alike : (es fs : List Entry) → ((n : ℕ) → kind_at fs n ≡ kind_at es n) → ((n : ℕ) → lines_at fs n ≡ lines_at es n) → (d : Dbref) → source_in fs d ≡ source_in es d
unfolding source_in object_at number_in kind_in
lines_alike es fs k h d = at (index_of d)
  where
    at : (o : Option ℕ) → option_map_or (λ (o : Object). o.lines) (option_and_then (object_in fs) (option_and_then (λ n. cond (is_garbage (kind_at fs n)) None (Some n)) o)) [] ≡ option_map_or (λ (o : Object). o.lines) (option_and_then (object_in es) (option_and_then (λ n. cond (is_garbage (kind_at es n)) None (Some n)) o)) []
    at None = refl
    at (Some n) = lines_by es fs n (h n) _ _ (ap is_garbage (k n))

kind_bare : (es : List Entry) (n : ℕ) → kind_at (map without_props es) n ≡ kind_at es n
unfolding object_in
kind_bare es n = ap (λ o. option_map_or (λ (o : Object). o.kind) (option_map (λ (e : Entry). e.object) o) Garbage) (slice_get-map without_props es n) ∙ at (slice_get es n)
  where
    at : (o : Option Entry) → option_map_or (λ (o : Object). o.kind) (option_map (λ (e : Entry). e.object) (option_map without_props o)) Garbage ≡ option_map_or (λ (o : Object). o.kind) (option_map (λ (e : Entry). e.object) o) Garbage
    at None = refl
    at (Some e) = refl

lines_bare : (es : List Entry) (n : ℕ) → lines_at (map without_props es) n ≡ lines_at es n
unfolding object_in
lines_bare es n = ap (λ o. option_map_or (λ (o : Object). o.lines) (option_map (λ (e : Entry). e.object) o) []) (slice_get-map without_props es n) ∙ at (slice_get es n)
  where
    at : (o : Option Entry) → option_map_or (λ (o : Object). o.lines) (option_map (λ (e : Entry). e.object) (option_map without_props o)) [] ≡ option_map_or (λ (o : Object). o.lines) (option_map (λ (e : Entry). e.object) o) []
    at None = refl
    at (Some e) = refl

pub notes_sources : (es fs : List Entry) → map without_props fs ≡ map without_props es → SameSources es fs
notes_sources es fs e d =
    lines_alike es fs (λ n. sym (kind_bare fs n) ∙ ap (λ os. kind_at os n) e ∙ kind_bare es n) (λ n. sym (lines_bare fs n) ∙ ap (λ os. lines_at os n) e ∙ lines_bare es n) d
