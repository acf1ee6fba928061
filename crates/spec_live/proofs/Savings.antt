-- What the readers of the objects give where the marks of objects change.
use Rattle.std.proofs.Common.{◌≡◌, ℕ, ◌+◌, zero, suc, List, [], ◌∷◌, Option, Some, None, refl, ◌∙◌, ap, length, arith, Bool, true, false, cond, not}
use Rattle.std.specs.List.{slice_get}
use Rattle.std.specs.Option.{option_map, option_and_then, option_map_or}
use Rattle.muck_laws.proofs.Mapped.{length_map}
use Rattle.muck_laws.proofs.Places.{read_mapped}
use Rattle.spec_live.specs.declared.saving.Saving.{Saving}
use Rattle.spec_live.specs.declared.saving.Saving.TheVariants.{Due}
use Rattle.spec_live.specs.Objects.{Entry, object_in, entry_list, list_in, mark_in, kind_in, due}
use Rattle.spec_live.specs.Saving.{saving_in, links_in, due_from, same_links, relinked, on_saving, all_saving}

-- What is due where a test holds.

abbrev pub due_where : Bool → Entry → Entry
due_where b e = cond b (due e) e

length_due : (n : ℕ) (test : ℕ → Bool) (es : List Entry) → length (due_from n test es) ≡ length es
unfolding due_from
length_due n test [] = refl
length_due n test (e ∷ es) = ap suc (length_due (suc n) test es)

get_due : (n : ℕ) (test : ℕ → Bool) (es : List Entry) (k m : ℕ) → m ≡ n + k → slice_get (due_from n test es) k ≡ option_map (due_where (test m)) (slice_get es k)
unfolding due_from
get_due n test [] k m h = refl
get_due n test (e ∷ es) zero m h = let same : n ≡ m = omega arith in ap (λ j. Some (due_where (test j) e)) same
get_due n test (e ∷ es) (suc k) m h = get_due (suc n) test es k m (omega arith)

-- What is linked otherwise than before is due.

-- whether it is
abbrev pub links_differ : List Entry → List Entry → ℕ → Bool
links_differ before es k = not (same_links (links_in before k) (links_in es k))

pub length_relinked : (before es : List Entry) → length (relinked before es) ≡ length es
unfolding relinked
length_relinked before es = length_due 0 (links_differ before es) es

pub get_relinked : (before es : List Entry) (k : ℕ) → slice_get (relinked before es) k ≡ option_map (due_where (links_differ before es k)) (slice_get es k)
unfolding relinked
get_relinked before es k = get_due 0 (links_differ before es) es k k (omega arith)

-- seen by a reader that doesn't see it
pub read_relinked : {X : Type 0} (read : Option Entry → X) (before es : List Entry) (k : ℕ) → ((e : Entry) → read (Some (due e)) ≡ read (Some e)) → read (slice_get (relinked before es) k) ≡ read (slice_get es k)
read_relinked read before es k h = ap read (get_relinked before es k) ∙ by_cases (links_differ before es k) (slice_get es k)
  where
    by_cases : (b : Bool) (o : Option Entry) → read (option_map (due_where b) o) ≡ read o
    by_cases b None = refl
    by_cases true (Some e) = h e
    by_cases false (Some e) = refl

pub object_relinked : (before es : List Entry) (k : ℕ) → object_in (relinked before es) k ≡ object_in es k
unfolding object_in
object_relinked before es k = read_relinked (λ o. option_map (λ (e : Entry). e.object) o) before es k (λ e. refl)

pub list_relinked : (v : Bool) (before es : List Entry) (k : ℕ) → list_in v (relinked before es) k ≡ list_in v es k
unfolding list_in
list_relinked true before es k = read_relinked (λ o. option_map_or (entry_list true) o []) before es k (λ e. refl)
list_relinked false before es k = read_relinked (λ o. option_map_or (entry_list false) o []) before es k (λ e. refl)

pub mark_relinked : (before es : List Entry) (k : ℕ) → mark_in (relinked before es) k ≡ mark_in es k
unfolding mark_in
mark_relinked before es k = read_relinked (λ o. option_and_then (λ (e : Entry). e.mark) o) before es k (λ e. refl)

pub saving_relinked : (before es : List Entry) (k : ℕ) → saving_in (relinked before es) k ≡ cond (not (same_links (links_in before k) (links_in es k))) Due (saving_in es k)
unfolding saving_in
saving_relinked before es k = ap (λ o. option_map_or (λ (e : Entry). e.saving) o Due) (get_relinked before es k) ∙ by_cases (links_differ before es k) (slice_get es k)
  where
    by_cases : (b : Bool) (o : Option Entry) → option_map_or (λ (e : Entry). e.saving) (option_map (due_where b) o) Due ≡ cond b Due (option_map_or (λ (e : Entry). e.saving) o Due)
    by_cases true None = refl
    by_cases false None = refl
    by_cases true (Some e) = refl
    by_cases false (Some e) = refl

-- All marks at once.

pub length_resaved : (f : Saving → Saving) (es : List Entry) → length (all_saving f es) ≡ length es
unfolding all_saving
length_resaved f es = length_map (on_saving f) es

pub object_resaved : (f : Saving → Saving) (k : ℕ) (es : List Entry) → object_in (all_saving f es) k ≡ object_in es k
unfolding object_in all_saving
object_resaved f k es = read_mapped (λ o. option_map (λ (e : Entry). e.object) o) (on_saving f) es k (λ e. refl)

pub list_resaved : (v : Bool) (f : Saving → Saving) (k : ℕ) (es : List Entry) → list_in v (all_saving f es) k ≡ list_in v es k
unfolding list_in all_saving
list_resaved true f k es = read_mapped (λ o. option_map_or (entry_list true) o []) (on_saving f) es k (λ e. refl)
list_resaved false f k es = read_mapped (λ o. option_map_or (entry_list false) o []) (on_saving f) es k (λ e. refl)

pub mark_resaved : (f : Saving → Saving) (k : ℕ) (es : List Entry) → mark_in (all_saving f es) k ≡ mark_in es k
unfolding mark_in all_saving
mark_resaved f k es = read_mapped (λ o. option_and_then (λ (e : Entry). e.mark) o) (on_saving f) es k (λ e. refl)

pub kind_resaved : (f : Saving → Saving) (k : ℕ) (es : List Entry) → kind_in (all_saving f es) k ≡ kind_in es k
unfolding kind_in
kind_resaved f k es = rw (object_resaved f k es) refl
