-- Each change of the objects is a path of steps.
use Rattle.std.proofs.Common.{◌≡◌, ℕ, List, [], ◌∷◌, ◌++◌, Some, length, refl, sym, ◌∙◌, eqb, Bool, true, false, cond, map}
use Rattle.std.specs.List.{slice_get}
use Rattle.muck_model.specs.declared.dbref.Dbref.{Dbref}
use Rattle.muck_model.specs.declared.dbref.Kind.{Kind}
use Rattle.muck_model.specs.declared.dbref.Kind.TheVariants.{Garbage}
use Rattle.spec_live.specs.declared.saving.Saving.{Saving}
use Rattle.spec_live.specs.declared.saving.Saving.TheVariants.{Due}
use Rattle.spec_live.specs.Chain.{without_number}
use Rattle.spec_live.specs.Objects.{Entry, is_exit, kind_in, object_in, list_in, changed_at, on_object, with_object}
use Rattle.spec_live.specs.Saving.{is_due, on_saving, all_saving, saving_done, due_again, pending}
use Rattle.spec_live.specs.Moving.{left_out, put_first, with_place, set_down, moved}
use Rattle.spec_live.specs.Making.{blank_entry, objects_grown, new_object, created}
use Rattle.spec_live.specs.Setting.{set_at, with_lines, lines_set}
use Rattle.spec_live.specs.Recycling.{untie, untied, way_home, sent_home, gone_entry, is_exit_of, exit_gone, without_exits, exits_gone, vanished, taken_away, recycled}
use Rattle.spec_live.specs.Marks.{entry_unmarked}
use Rattle.spec_live.specs.Stood.{still, stilled}
use Rattle.spec_live.proofs.CreationLaws.{grown_kind}
use Rattle.spec_live.proofs.Keeping.{stays, goes, one, join}
use Rattle.spec_live.proofs.Steps.{Begun, Stilled, Place, Lines, Made, Gone, Lists, Told, Stored, May, Field, placed, name_of, field_set, sets, lines, makes, unties, vanishes, lists, dues, tells, resaves, begins, stills, Touches, each, at, grows, parts, settles, Walk}

-- it writes no list
pub walk_at : (may : May) (n : ℕ) (f : Entry → Entry) (es : List Entry) → ((e : Entry) → slice_get es n ≡ Some e → Touches may false e (f e)) → Walk may es (changed_at n f es)
walk_at may n f es t = one (parts es _ (one (at n f es t)))

walk_each : (may : May) (f : Entry → Entry) (es : List Entry) → ((e : Entry) → Touches may false e (f e)) → Walk may es (map f es)
walk_each may f es t = one (parts es _ (one (each f es t)))

pub walk_set : (may : May) (c : Field) (n : ℕ) (es : List Entry) → may (name_of c) ≡ true → Walk may es (set_at (field_set c) n es)
walk_set may c n es m = walk_at may n (on_object (field_set c)) es (λ e h. one (sets c e m))

pub walk_lines : (may : May) (ls : List (List ℕ)) (n : ℕ) (es : List Entry) → may Lines ≡ true → Walk may es (lines_set ls n es)
walk_lines may ls n es m = walk_at may n (with_lines ls) es (λ e h. one (lines ls e m))

-- Moving.

left_touches : (may : May) (d : ℕ) (e : Entry) → Touches may true e (left_out d e)
left_touches may d e = one (lists (without_number d e.contents) (without_number d e.exits) e refl)

put_touches : (may : May) (w : Bool) (d : ℕ) (e : Entry) → Touches may true e (put_first w d e)
put_touches may true d e = goes (lists e.contents (d ∷ e.exits) e refl) (one (dues _ refl))
put_touches may false d e = goes (lists (d ∷ e.contents) e.exits e refl) (one (dues _ refl))

pub walk_moved : (may : May) (d to : ℕ) (es : List Entry) → may Place ≡ true → may Lists ≡ true → Walk may es (moved d to es)
unfolding moved set_down
walk_moved may d to es p l = one (settles es _ l
    (goes (each (left_out d) es (left_touches may d))
    (goes (at to (put_first (is_exit (kind_in es d)) d) (map (left_out d) es) (λ e h. put_touches may (is_exit (kind_in es d)) d e))
    (one (at d (on_object (with_place to)) _ (λ e h. one (sets (placed to) e p)))))))

-- Making.

grown_walk : (may : May) (n : ℕ) (es : List Entry) → may Made ≡ true → Walk may es (objects_grown n es)
unfolding objects_grown
grown_walk may n es m = by_cases (eqb n (length es))
  where
    by_cases : (b : Bool) → Walk may es (cond b (es ++ blank_entry ∷ []) es)
    by_cases true = one (parts es _ (one (grows es m)))
    by_cases false = stays

kind_there : (es : List Entry) (k : ℕ) (e : Entry) → slice_get es k ≡ Some e → kind_in es k ≡ e.object.kind
unfolding kind_in object_in
kind_there es k e h = rw h refl

pub walk_created : (may : May) (n : ℕ) (kind : Kind) (name : List ℕ) (owner : Dbref) (to : ℕ) (es : List Entry) → kind_in es n ≡ Garbage → may Made ≡ true → may Place ≡ true → may Lists ≡ true → Walk may es (created n kind name owner to es)
unfolding created new_object
walk_created may n kind name owner to es g m p l =
    join (grown_walk may n es m)
    (join (walk_at may n (with_object (new_object n kind name owner)) (objects_grown n es) (λ e h. one (makes _ e m (sym (kind_there (objects_grown n es) n e h) ∙ grown_kind n n es ∙ g) refl)))
    (walk_moved may n to _ p l))

-- Recycling.

exit_touches : (may : May) (d : ℕ) (e : Entry) → may Gone ≡ true → Touches may true e (exit_gone d e)
exit_touches may d e g = by_cases (is_exit_of d e.object)
  where
    by_cases : (b : Bool) → Touches may true e (cond b (gone_entry e) e)
    by_cases true = one (vanishes e g refl)
    by_cases false = stays

sent_walk : (may : May) (xs : List ℕ) (es : List Entry) → may Place ≡ true → may Lists ≡ true → Walk may es (sent_home xs es)
unfolding sent_home
sent_walk may [] es p l = stays
sent_walk may (x ∷ xs) es p l = join (walk_moved may x (way_home x es) es p l) (sent_walk may xs _ p l)

pub taken_walk : (may : May) (d : ℕ) (es : List Entry) → may Gone ≡ true → may Lists ≡ true → Walk may es (taken_away d es)
unfolding taken_away vanished exits_gone
taken_walk may d es g l = one (settles es _ l
    (goes (each (exit_gone d) es (λ e. exit_touches may d e g))
    (goes (at d without_exits _ (λ e h. one (lists e.contents [] e refl)))
    (goes (each (left_out d) _ (left_touches may d))
    (one (at d gone_entry _ (λ e h. one (vanishes e g refl))))))))

pub walk_recycled : (may : May) (d : ℕ) (es : List Entry) → may Gone ≡ true → may Place ≡ true → may Lists ≡ true → Walk may es (recycled d es)
unfolding recycled untied
walk_recycled may d es g p l = join (walk_each may (untie d) es (λ e. one (unties d e g))) (join (sent_walk may (list_in false es d) _ p l) (taken_walk may d _ g l))

-- What is to be told, and how objects stand to the dumps.

pub walk_told : (may : May) (es : List Entry) → may Told ≡ true → Walk may es (map entry_unmarked es)
walk_told may es t = walk_each may entry_unmarked es (λ e. one (tells e t))

done_early : (s : Saving) → is_due (saving_done s) ≡ false → is_due s ≡ false
done_early Due h = h
done_early s h = refl

again_early : (s : Saving) → is_due (due_again s) ≡ false → is_due s ≡ false
again_early Due h = h
again_early s h = refl

pub walk_stored : (may : May) (es : List Entry) → may Stored ≡ true → Walk may es (all_saving saving_done es)
unfolding all_saving
walk_stored may es s = walk_each may (on_saving saving_done) es (λ e. one (resaves saving_done e s done_early))

pub walk_failed : (may : May) (es : List Entry) → may Stored ≡ true → Walk may es (all_saving due_again es)
unfolding all_saving
walk_failed may es s = walk_each may (on_saving due_again) es (λ e. one (resaves due_again e s again_early))

pub walk_begun : (may : May) (es : List Entry) → may Begun ≡ true → Walk may es (all_saving pending es)
unfolding all_saving
walk_begun may es s = walk_each may (on_saving pending) es (λ e. one (begins e s))

-- Another event begins.

pub walk_stilled : (may : May) (es : List Entry) → may Stilled ≡ true → Walk may es (stilled es)
unfolding stilled
walk_stilled may es s = walk_each may still es (λ e. one (stills e s))
