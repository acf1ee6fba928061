-- Within an event nothing changes where players stood when it began: each path on which no other event begins keeps that, and where no dump begins either, leaves an object due or as before.
use Rattle.std.proofs.Common.{◌≡◌, ℕ, List, [], ◌∷◌, ◌++◌, Option, Some, None, refl, ◌∙◌, ap, subst, sym, Bool, true, false, length}
use Rattle.std.proofs.lemmas.Bool.{false≢true}
use Rattle.std.proofs.lemmas.Option.{slice_get-map}
use Rattle.std.specs.List.{slice_get}
use Rattle.std.specs.Option.{option_map, option_map_or, option_and_then}
use Rattle.muck_laws.proofs.Mapped.{length_map}
use Rattle.muck_laws.proofs.Options.{kept_then}
use Rattle.muck_laws.proofs.Places.{read_more}
use Rattle.spec_live.specs.declared.object.Object.{Object}
use Rattle.spec_live.specs.declared.saving.Saving.{Saving}
use Rattle.spec_live.specs.declared.saving.Saving.TheVariants.{Due}
use Rattle.spec_live.specs.Objects.{Entry, object_in, entry_list, list_in, mark_in, kind_in, changed_at, with_object}
use Rattle.spec_live.specs.Saving.{saving_in, is_due, on_saving, all_saving, Marked}
use Rattle.spec_live.specs.Stood.{standing, stood_in, stands_in, still, stilled, IsStill, SameStood, Traced}
use Rattle.spec_live.specs.Moving.{moved}
use Rattle.spec_live.specs.Making.{blank_entry}
use Rattle.spec_live.specs.Recycling.{gone_entry, taken_away}
use Rattle.spec_live.specs.Lives.{Live}
use Rattle.spec_live.specs.Consistent.{IsConsistent}
use Rattle.spec_live.proofs.Keeping.{Order}
use Rattle.spec_live.proofs.Lists.{read_kept}
use Rattle.spec_live.proofs.Ties.{consistent_seen}
use Rattle.spec_live.proofs.Dues.{links_alike}
use Rattle.spec_live.proofs.Steps.{Begun, Stilled, May, stills, Walk}
use Rattle.spec_live.proofs.Walks.{walk_moved, taken_walk}
use Rattle.spec_live.proofs.Entries.{seen, Holds, each_walk}
use Rattle.spec_live.proofs.Marking.{marked_itself, marked_both, marked_walk}
use Rattle.spec_live.proofs.Lives.{Goes, marked_along, objects_along}

-- One entry.

abbrev KeepsStood : Entry → Entry → Type 0
KeepsStood e g = g.stood ≡ e.stood

entry_order : Order KeepsStood
entry_order = record { itself = λ e. refl; both = λ e f g p q. q ∙ p }

stood_touch : (may : May) → may Stilled ≡ false → Holds may KeepsStood
unfolding gone_entry
stood_touch may n _ _ _ (stills e h) = absurd (false≢true (sym n ∙ h))
stood_touch may n _ _ _ touch = refl

-- All of them.

stood_read : (es : List Entry) (n : ℕ) → stood_in es n ≡ (seen (slice_get es n)).stood
unfolding stood_in blank_entry
stood_read es n = by_cases (slice_get es n)
  where
    by_cases : (q : Option Entry) → option_and_then (λ (e : Entry). e.stood) q ≡ (seen q).stood
    by_cases None = refl
    by_cases (Some e) = refl

pub stood_order : Order SameStood
stood_order = record { itself = λ es k. refl; both = λ es fs gs p q k. q k ∙ p k }

pub stood_walk : (may : May) → may Stilled ≡ false → (es fs : List Entry) → Walk may es fs → SameStood es fs
stood_walk may n es fs p = λ k. stood_read fs k ∙ each_walk may entry_order (stood_touch may n) es fs p k ∙ sym (stood_read es k)

pub stood_along : (may : May) → may Stilled ≡ false → (w v : Live) → Goes may w v → SameStood w.objects v.objects
stood_along may n w v p = objects_along may stood_order (stood_walk may n) w v p

pub traced_itself : (es : List Entry) → Traced es es
traced_itself es = record { marks = marked_itself es; stood = λ k. refl }

pub traced_both : (es fs gs : List Entry) → Traced es fs → Traced fs gs → Traced es gs
traced_both es fs gs p q = record { marks = marked_both es fs gs p.marks q.marks; stood = stood_order.both es fs gs p.stood q.stood }

pub traced_as : (es fs gs : List Entry) → gs ≡ fs → Traced es fs → Traced es gs
traced_as es fs gs e t = let P : List Entry → Type 0 = λ z. Traced es z in subst P (sym e) t

pub traced_walk : (may : May) → may Begun ≡ false → may Stilled ≡ false → (es fs : List Entry) → Walk may es fs → Traced es fs
traced_walk may b n es fs p = record { marks = marked_walk may b es fs p; stood = stood_walk may n es fs p }

pub traced_along : (may : May) → may Begun ≡ false → may Stilled ≡ false → (w v : Live) → Goes may w v → Traced w.objects v.objects
traced_along may b n w v p = record { marks = marked_along may b w v p; stood = stood_along may n w v p }

-- Single changes.

abbrev within : May
within Stilled = false
within _ = true

pub stood_moved : (d to : ℕ) (es : List Entry) → SameStood es (moved d to es)
stood_moved d to es = stood_walk within refl es (moved d to es) (walk_moved within d to es refl refl)

pub stood_taken : (d : ℕ) (es : List Entry) → SameStood es (taken_away d es)
stood_taken d es = stood_walk within refl es (taken_away d es) (taken_walk within d es refl refl)

pub stood_named : (n : ℕ) (o : Object) (es : List Entry) → SameStood es (changed_at n (with_object o) es)
unfolding stood_in
stood_named n o es = λ k. read_kept (λ (e : Entry). e.stood) es n k (with_object o) (λ e. refl)

pub stood_more : (es : List Entry) → SameStood es (es ++ blank_entry ∷ [])
unfolding stood_in blank_entry
stood_more es = λ k. read_more (λ o. option_and_then (λ (e : Entry). e.stood) o) es blank_entry k refl

pub stood_resaved : (f : Saving → Saving) (es : List Entry) → SameStood es (all_saving f es)
unfolding all_saving stood_in
stood_resaved f es = λ k. ap (λ (o : Option Entry). option_and_then (λ (e : Entry). e.stood) o) (slice_get-map (on_saving f) es k) ∙ kept_then (λ (e : Entry). e.stood) (on_saving f) (slice_get es k) (λ e. refl)

-- An event begins.

-- a reader that doesn't see where players stood
pub read_stilled : {X : Type 0} (read : Option Entry → X) (es : List Entry) (k : ℕ) → ((e : Entry) → read (Some (still e)) ≡ read (Some e)) → read (slice_get (stilled es) k) ≡ read (slice_get es k)
unfolding stilled
read_stilled read es k h = ap read (slice_get-map still es k) ∙ by_cases (slice_get es k)
  where
    by_cases : (o : Option Entry) → read (option_map still o) ≡ read o
    by_cases None = refl
    by_cases (Some e) = h e

pub length_stilled : (es : List Entry) → length (stilled es) ≡ length es
unfolding stilled
length_stilled es = length_map still es

pub object_stilled : (es : List Entry) (k : ℕ) → object_in (stilled es) k ≡ object_in es k
unfolding object_in
object_stilled es k = read_stilled (λ o. option_map (λ (e : Entry). e.object) o) es k (λ e. refl)

pub list_stilled : (v : Bool) (es : List Entry) (k : ℕ) → list_in v (stilled es) k ≡ list_in v es k
unfolding list_in
list_stilled true es k = read_stilled (λ o. option_map_or (entry_list true) o []) es k (λ e. refl)
list_stilled false es k = read_stilled (λ o. option_map_or (entry_list false) o []) es k (λ e. refl)

pub mark_stilled : (es : List Entry) (k : ℕ) → mark_in (stilled es) k ≡ mark_in es k
unfolding mark_in
mark_stilled es k = read_stilled (λ o. option_and_then (λ (e : Entry). e.mark) o) es k (λ e. refl)

pub kind_stilled : (es : List Entry) (k : ℕ) → kind_in (stilled es) k ≡ kind_in es k
unfolding kind_in
kind_stilled es k = rw (object_stilled es k) refl

pub saving_stilled : (es : List Entry) (k : ℕ) → saving_in (stilled es) k ≡ saving_in es k
unfolding saving_in
saving_stilled es k = read_stilled (λ o. option_map_or (λ (e : Entry). e.saving) o Due) es k (λ e. refl)

-- so it hangs together as before, and what isn't due is as before
pub consistent_stilled : (es : List Entry) → IsConsistent es → IsConsistent (stilled es)
consistent_stilled es c = consistent_seen es (stilled es) (length_stilled es) (object_stilled es) (λ v k. list_stilled v es k) c

pub marked_stilled : (es : List Entry) → Marked es (stilled es)
marked_stilled es = λ k early. record {
  early = ap (λ s. is_due s) (sym (saving_stilled es k)) ∙ early;
  object = object_stilled es k;
  links = links_alike es (stilled es) k (object_stilled es k) (λ v j. list_stilled v es j);
}

pub is_stilled : (es : List Entry) → IsStill (stilled es)
unfolding stilled stood_in stands_in object_in
is_stilled es = λ k. rw (slice_get-map still es k) (by_cases (slice_get es k))
  where
    by_cases : (o : Option Entry) → option_and_then (λ (e : Entry). e.stood) (option_map still o) ≡ option_and_then standing (option_map (λ (e : Entry). e.object) (option_map still o))
    by_cases None = refl
    by_cases (Some e) = refl

-- who stood where then is what is kept of it
pub stood_before : (es fs : List Entry) → IsStill es → SameStood es fs → (k : ℕ) → stood_in fs k ≡ stands_in es k
stood_before es fs begun kept = λ k. kept k ∙ begun k
