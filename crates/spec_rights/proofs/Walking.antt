-- Each change by leave is a path of steps.
use Rattle.std.proofs.Common.{◌≡◌, ℕ, List, Option, Some, None, true, false, refl, ◌∙◌}
use Rattle.std.specs.Option.{option_map_or}
use Rattle.muck_model.specs.declared.dbref.Dbref.{Dbref}
use Rattle.spec_live.specs.Objects.{Entry, mark_in, number_in, on_object}
use Rattle.spec_live.specs.Setting.{set_at, lines_set}
use Rattle.spec_live.specs.Lives.{Live}
use Rattle.spec_live.proofs.Keeping.{stays, one}
use Rattle.spec_live.proofs.Steps.{Name, May, Told, Stored, Begun, Stilled, Came, Heard, Tuned, Lists, Lines, Gone, Place, Field, kept, name_of, field_set, sets, Touches, Walk}
use Rattle.spec_live.proofs.Walks.{walk_set, walk_lines, walk_moved}
use Rattle.spec_live.proofs.Entries.{mark_walk}
use Rattle.spec_live.proofs.Lives.{Goes, goes_objects, objects_along, wider}
use Rattle.spec_rights.specs.Changing.{set_object, lines_kept, moved_at, moved_to}

-- Whoever acts tells of no object, begins and ends no dump, ends no event and tunes nothing, no connection comes or goes by it, no line comes to one, and no editor is taken.
abbrev pub acts : May
acts Told = false
acts Stored = false
acts Begun = false
acts Stilled = false
acts Came = false
acts Heard = false
acts Tuned = false
acts _ = true

-- and what changes no source and recycles nothing leaves what is to be told
abbrev pub silent : May
silent Lines = false
silent Gone = false
silent name = acts name

number_walk : (may : May) (g : ℕ → List Entry → List Entry) → ((n : ℕ) (es : List Entry) → Walk may es (g n es)) → (q : Option ℕ) (es : List Entry) → Walk may es (option_map_or (λ n. g n es) q es)
number_walk may g p None es = stays
number_walk may g p (Some n) es = p n es

pub goes_set : (may : May) (c : Field) (x : Dbref) (w : Live) → may (name_of c) ≡ true → Goes may w (set_object (field_set c) x w)
goes_set may c x w m = goes_objects may w _ (number_walk may (set_at (field_set c)) (λ n es. walk_set may c n es m) (number_in w.objects x) w.objects)

pub goes_lines : (may : May) (x : Dbref) (ls : List (List ℕ)) (w : Live) → may Lines ≡ true → Goes may w (lines_kept x ls w)
unfolding lines_kept
goes_lines may x ls w m = goes_objects may w _ (number_walk may (lines_set ls) (λ n es. walk_lines may ls n es m) (number_in w.objects x) w.objects)

moved_walk : (may : May) (d t : Option ℕ) (es : List Entry) → may Place ≡ true → may Lists ≡ true → Walk may es (moved_at d t es)
moved_walk may (Some d) (Some t) es p l = walk_moved may d t es p l
moved_walk may d t es p l = stays

pub goes_moved : (may : May) (x to : Dbref) (w : Live) → may Place ≡ true → may Lists ≡ true → Goes may w (moved_to x to w)
unfolding moved_to
goes_moved may x to w p l = goes_objects may w _ (moved_walk may (number_in w.objects x) (number_in w.objects to) w.objects p l)

pub same_marks : (w v : Live) → Goes silent w v → (n : ℕ) → mark_in v.objects n ≡ mark_in w.objects n
same_marks w v p = objects_along silent (record { itself = λ es n. refl; both = λ es fs gs p q n. q n ∙ p n }) (mark_walk silent refl refl refl) w v p

pub silent_acts : (w v : Live) → Goes silent w v → Goes acts w v
silent_acts w v p = wider silent acts up w v p
  where
    up : (name : Name) → silent name ≡ true → acts name ≡ true
    up Lines h = refl
    up Gone h = refl
    up _ h = h

pub field_silent : (c : Field) → silent (name_of c) ≡ true
field_silent kept = refl
field_silent c = refl

pub finishes : (c : Field) (e : Entry) → Touches silent false e (on_object (field_set c) e)
finishes c e = one (sets c e (field_silent c))
