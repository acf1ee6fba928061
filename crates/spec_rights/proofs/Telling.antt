-- Where the source of an object changed, something is to be told of it; and where the object is gone, that is.
use Rattle.std.proofs.Common.{◌≡◌, ℕ, Bool, true, false, cond, not, List, [], refl, sym, ◌∙◌, ap, subst, Option, Some, None, inl, inr}
use Rattle.std.specs.Prelude.{◌⊎◌, is_some, slice_get}
use Rattle.std.specs.Option.{option_map, option_and_then, option_map_or}
use Rattle.std.proofs.lemmas.Bool.{false≢true}
use Rattle.muck_laws.proofs.Truths.{never_both}
use Rattle.muck_model.specs.declared.dbref.Dbref.{Dbref}
use Rattle.spec_live.specs.declared.object.Object.{Object}
use Rattle.spec_live.specs.declared.mark.Mark.{Mark}
use Rattle.spec_live.specs.declared.mark.Mark.TheVariants.{Lines as LinesMark, Gone}
use Rattle.spec_live.specs.Objects.{Entry, dbref_of, is_garbage, object_in, mark_in, object_at, garbage}
use Rattle.spec_live.specs.Making.{blank_entry}
use Rattle.spec_live.specs.Recycling.{gone_entry}
use Rattle.spec_live.specs.Setting.{lines_marked}
use Rattle.spec_live.specs.Lives.{Live}
use Rattle.spec_live.proofs.Keeping.{Order}
use Rattle.spec_live.proofs.Steps.{kept, sets, lines, makes, vanishes, tells}
use Rattle.spec_live.proofs.Entries.{seen, Each, Holds, each_order, each_walk, mark_read}
use Rattle.spec_live.proofs.Lives.{Goes, objects_along}
use Rattle.spec_rights.proofs.Lookups.{alive, seen_at}
use Rattle.spec_rights.proofs.Walking.{acts}

-- the source of an object; what isn't there has none
abbrev source_at : List Entry → Dbref → List (List ℕ)
source_at es d = option_map_or (λ o. o.lines) (object_at d es) []

-- something is to be told of what stands at the number
abbrev is_told : List Entry → ℕ → Bool
is_told es n = is_some (mark_in es n)

-- an object is there
abbrev is_there : List Entry → ℕ → Bool
is_there es n = is_some (object_at (dbref_of n) es)

-- Of each object the source is what it was, or something is to be told of it; and where something was to be told, something is. What was there and isn't any more is to be told
-- to be gone, and so is what was.
pub record Told (es fs : List Entry) : Type 0 where
  pub source : (n : ℕ) → (source_at fs (dbref_of n) ≡ source_at es (dbref_of n)) ⊎ (is_told fs n ≡ true)
  pub stays : (n : ℕ) → is_told es n ≡ true → is_told fs n ≡ true
  pub gone : (n : ℕ) → is_there es n ≡ true → is_there fs n ≡ false → mark_in fs n ≡ Some Gone
  pub still : (n : ℕ) → mark_in es n ≡ Some Gone → mark_in fs n ≡ Some Gone

-- One entry.

abbrev pub lives : Entry → Bool
lives e = not (is_garbage e.object.kind)

abbrev source_of : Entry → List (List ℕ)
source_of e = cond (lives e) e.object.lines []

record Tells (e g : Entry) : Type 0 where
  source : (source_of g ≡ source_of e) ⊎ (is_some g.mark ≡ true)
  stays : is_some e.mark ≡ true → is_some g.mark ≡ true
  gone : lives e ≡ true → lives g ≡ false → g.mark ≡ Some Gone
  still : e.mark ≡ Some Gone → g.mark ≡ Some Gone

tells_both : (e f g : Entry) → Tells e f → Tells f g → Tells e g
tells_both e f g p q = record { source = at p.source q.source; stays = λ h. q.stays (p.stays h); gone = λ h k. between h k (lives f) refl; still = λ h. q.still (p.still h) }
  where
    between : lives e ≡ true → lives g ≡ false → (b : Bool) → lives f ≡ b → g.mark ≡ Some Gone
    between h k true l = q.gone l k
    between h k false l = q.still (p.gone h l)

    at : (source_of f ≡ source_of e) ⊎ (is_some f.mark ≡ true) → (source_of g ≡ source_of f) ⊎ (is_some g.mark ≡ true) → (source_of g ≡ source_of e) ⊎ (is_some g.mark ≡ true)
    at s (inr m) = inr m
    at (inl s) (inl t) = inl (t ∙ s)
    at (inr m) (inl t) = inr (q.stays m)

tells_order : Order Tells
tells_order = record { itself = λ e. record { source = inl refl; stays = λ h. h; gone = λ h k. never_both (lives e) h k; still = λ h. h }; both = tells_both }

lines_told : (m : Option Mark) → is_some (lines_marked m) ≡ true
lines_told None = refl
lines_told (Some LinesMark) = refl
lines_told (Some Gone) = refl

tells_touch : Holds acts Tells
unfolding gone_entry
tells_touch _ _ _ (lines ls e h) = record { source = inr (lines_told e.mark); stays = λ _. lines_told e.mark; gone = λ l k. never_both (lives e) l k; still = λ s. ap lines_marked s }
tells_touch _ _ _ (makes o e h g l) =
    let dead : lives e ≡ false = ap (λ k. not (is_garbage k)) g in
    record { source = inl (sourceless (not (is_garbage o.kind)) o.lines l ∙ sym (ap (λ b. cond b e.object.lines []) dead)); stays = λ s. s; gone = λ s _. never_both (lives e) s dead; still = λ s. s }
  where
    sourceless : (b : Bool) (ls : List (List ℕ)) → ls ≡ [] → cond b ls [] ≡ []
    sourceless true ls s = s
    sourceless false ls s = refl
tells_touch _ _ _ (vanishes e h l) = record { source = inr refl; stays = λ _. refl; gone = λ _ _. refl; still = λ _. refl }
tells_touch _ _ _ (tells e h) = absurd (false≢true h)
tells_touch _ _ _ (sets kept e h) = record { source = inl refl; stays = λ s. s; gone = λ l k. never_both (lives e) l k; still = λ s. s }
tells_touch _ _ _ touch = record { source = inl refl; stays = λ s. s; gone = λ l k. never_both _ l k; still = λ s. s }

-- All of them, as they are read.

source_read : (es : List Entry) (n : ℕ) → source_at es (dbref_of n) ≡ source_of (seen (slice_get es n))
unfolding object_in blank_entry garbage
source_read es n = ap (λ (q : Option Object). option_map_or (λ (o : Object). o.lines) q []) (seen_at es n) ∙ by_cases (slice_get es n)
  where
    by_cases : (q : Option Entry) → option_map_or (λ (o : Object). o.lines) (option_and_then alive (option_map (λ (e : Entry). e.object) q)) [] ≡ source_of (seen q)
    by_cases None = refl
    by_cases (Some e) = elim (is_garbage e.object.kind) as (λ b. option_map_or (λ (o : Object). o.lines) (cond b None (Some e.object)) [] ≡ cond (not b) e.object.lines []) [ true ↦ refl | false ↦ refl ]

pub there_read : (es : List Entry) (n : ℕ) → is_there es n ≡ lives (seen (slice_get es n))
unfolding object_in blank_entry garbage
there_read es n = ap is_some (seen_at es n) ∙ by_cases (slice_get es n)
  where
    by_cases : (q : Option Entry) → is_some (option_and_then alive (option_map (λ (e : Entry). e.object) q)) ≡ lives (seen q)
    by_cases None = refl
    by_cases (Some e) = elim (is_garbage e.object.kind) as (λ b. is_some (cond b None (Some e.object)) ≡ not b) [ true ↦ refl | false ↦ refl ]

told_by : (es fs : List Entry) → Each Tells es fs → Told es fs
told_by es fs h = record {
  source = λ n. at n (h n).source;
  stays = λ n s. ap is_some (mark_read fs n) ∙ (h n).stays (ap is_some (sym (mark_read es n)) ∙ s);
  gone = λ n l k. mark_read fs n ∙ (h n).gone (sym (there_read es n) ∙ l) (sym (there_read fs n) ∙ k);
  still = λ n s. mark_read fs n ∙ (h n).still (sym (mark_read es n) ∙ s);
}
  where
    at : (n : ℕ) → (source_of (seen (slice_get fs n)) ≡ source_of (seen (slice_get es n))) ⊎ (is_some (seen (slice_get fs n)).mark ≡ true) → (source_at fs (dbref_of n) ≡ source_at es (dbref_of n)) ⊎ (is_told fs n ≡ true)
    at n (inl e) = inl (source_read fs n ∙ e ∙ sym (source_read es n))
    at n (inr m) = inr (ap is_some (mark_read fs n) ∙ m)

pub told_same : (es fs : List Entry) → fs ≡ es → Told es fs
told_same es fs e = told_by es fs (subst (Each Tells es) (sym e) ((each_order tells_order).itself es))

-- whatever acts
pub told_along : (w v : Live) → Goes acts w v → Told w.objects v.objects
told_along w v p = told_by w.objects v.objects (objects_along acts (each_order tells_order) (each_walk acts tells_order tells_touch) w v p)
