-- What a deed changes, and what a random word does.
use Rattle.std.proofs.Common.{◌≡◌, ℕ, List, Option, Some, None, refl, ◌∙◌, ap}
use Rattle.std.specs.Prelude.{map, slice_get, slice_set}
use Rattle.std.specs.Option.{option_map_or}
use Rattle.muck_laws.proofs.Places.{map_set}
use Rattle.muck_model.specs.declared.dbref.Dbref.{Dbref}
use Rattle.muck_model.specs.declared.dbref.Denial.{Denial}
use Rattle.muck_prop.specs.declared.value.PropValue.{PropValue}
use Rattle.muck_prop.specs.declared.value.PropValue.TheVariants.{Text}
use Rattle.spec_live.specs.declared.object.Object.{Object}
use Rattle.spec_live.specs.Objects.{Entry, object_at, number_in, changed_at, on_object}
use Rattle.spec_live.specs.Setting.{set_at, with_prop, without_prop}
use Rattle.spec_live.specs.Lives.{Live, Change, tell_player, tell_others, draw}
use Rattle.spec_live.proofs.Keeping.{Keeps, Order, keeps_more}
use Rattle.spec_live.proofs.Steps as field
use Rattle.spec_live.proofs.Lives.{Quiet}
use Rattle.spec_live.proofs.Tracing.{traced_itself, traced_both, traced_as, traced_along}
use Rattle.spec_rights.specs.declared.act.Act.TheVariants.{Write}
use Rattle.spec_rights.specs.Verdict.{verdict}
use Rattle.spec_rights.specs.Changing.{at_number, property_stored, unstored}
use Rattle.spec_rights.proofs.Walking.{acts, goes_set}
use Rattle.spec_rights.proofs.Shown.{quiet_tell_player, quiet_tell_others, quiet_draw}
use Rattle.mpi.specs.declared.fault.MpiFault.TheVariants.{BadValue, Denied}
use Rattle.mpi.specs.declared.host.Deed.{Deed}
use Rattle.mpi.specs.declared.host.Deed.TheVariants as deed
use Rattle.spec_mpi.specs.Stages.{MpiStage}
use Rattle.spec_mpi.specs.Telling.{path_written_in, at_written_path, mpi_by_leave}
use Rattle.spec_mpi.specs.Doing.{stage_refused, stage_changed, path_written, does_in}
use Rattle.spec_mpi.specs.Touching.{without_props, TouchesNotes}

-- A deed is refused, changes a property by leave, or tells.

-- what is so of a world and itself, and of each change by leave, is so of what is written
pub written_law : (R : MpiStage → MpiStage → Type 0) (s : MpiStage) (d : Dbref) (text : List ℕ) (f : List (List ℕ) → Change) → R s s →
    ((p : List (List ℕ)) → verdict s.live.objects s.actor (Write d p) ≡ None → R s (record s { live = f p s.live })) → R s (path_written d text f s).1
unfolding path_written
written_law R s d text f same go = at_object (object_at d s.live.objects)
  where
    at_verdict : (p : List (List ℕ)) (v : Option Denial) → verdict s.live.objects s.actor (Write d p) ≡ v → R s (option_map_or (λ (denial : Denial). stage_refused s (Denied denial.rule)) v (stage_changed (f p) s)).1
    at_verdict p None e = go p e
    at_verdict p (Some denial) e = same

    at_read : (path : Option (List (List ℕ))) → R s (option_map_or (λ (p : List (List ℕ)). mpi_by_leave (stage_refused s) s.live.objects s.actor (Write d p) (stage_changed (f p) s)) path (stage_refused s BadValue)).1
    at_read None = same
    at_read (Some p) = at_verdict p (verdict s.live.objects s.actor (Write d p)) refl

    at_object : (o : Option Object) → R s (option_map_or (λ (o : Object). at_written_path (stage_refused s) (λ p. mpi_by_leave (stage_refused s) s.live.objects s.actor (Write d p) (stage_changed (f p) s)) text) o (stage_refused s BadValue)).1
    at_object None = same
    at_object (Some o) = at_read (path_written_in text)

-- what is so of a world and itself, of each property that is written by leave and of all that is told
pub does_law : (R : MpiStage → MpiStage → Type 0) (s : MpiStage) → R s s →
    ((d : Dbref) (p : List (List ℕ)) (value : PropValue) → verdict s.live.objects s.actor (Write d p) ≡ None → R s (record s { live = property_stored d p value s.live })) →
    ((d : Dbref) (p : List (List ℕ)) → verdict s.live.objects s.actor (Write d p) ≡ None → R s (record s { live = unstored d p s.live })) →
    ((d : Dbref) (text : List ℕ) → R s (record s { live = tell_player d text s.live })) →
    ((room but : Dbref) (text : List ℕ) → R s (record s { live = tell_others room but text s.live })) →
    (d : Deed) → R s (does_in d s).1
does_law R s same store unstore one others (deed.Store text path d) = written_law R s d path (λ p. property_stored d p (Text text)) same (λ p. store d p (Text text))
does_law R s same store unstore one others (deed.DelProp path d) = written_law R s d path (λ p. unstored d p) same (λ p. unstore d p)
does_law R s same store unstore one others (deed.Tell text d) = one d text
does_law R s same store unstore one others (deed.Otell text d) = others d s.actor.player text

-- What is touched.

pub touching_order : Order TouchesNotes
touching_order = record {
  itself = λ w. record { objects = refl; traced = traced_itself w.objects; connections = refl; tune = refl };
  both = λ u v w r s. record { objects = s.objects ∙ r.objects; traced = traced_both u.objects v.objects w.objects r.traced s.traced; connections = s.connections ∙ r.connections; tune = s.tune ∙ r.tune };
}

map_changed : {X Y : Type 0} (g : X → Y) (f : X → X) → ((x : X) → g (f x) ≡ g x) → (n : ℕ) (xs : List X) → map g (changed_at n f xs) ≡ map g xs
unfolding changed_at
map_changed {X} {Y} g f h n xs = at (slice_get xs n) refl
  where
    at : (q : Option X) → slice_get xs n ≡ q → map g (option_map_or (λ x. slice_set xs n (f x)) q xs) ≡ map g xs
    at None e = refl
    at (Some x) e = map_set g xs n x (f x) e (h x)

noted : (f : Object → Object) → ((e : Entry) → without_props (on_object f e) ≡ without_props e) → (n : ℕ) (es : List Entry) → map without_props (set_at f n es) ≡ map without_props es
noted f h n es = map_changed without_props (on_object f) h n es

noted_at : (f : Object → Object) → ((e : Entry) → without_props (on_object f e) ≡ without_props e) → (x : Dbref) (es : List Entry) → map without_props (at_number (set_at f) x es) ≡ map without_props es
noted_at f h x es = at (number_in es x)
  where
    at : (q : Option ℕ) → map without_props (option_map_or (λ n. set_at f n es) q es) ≡ map without_props es
    at None = refl
    at (Some n) = noted f h n es

pub touching_stored : (x : Dbref) (path : List (List ℕ)) (value : PropValue) (w : Live) → TouchesNotes w (property_stored x path value w)
unfolding property_stored
touching_stored x path value w = record { objects = noted_at (with_prop path value) (λ e. refl) x w.objects; traced = traced_along acts refl refl w _ (goes_set acts (field.stored path value) x w refl); connections = refl; tune = refl }

pub touching_unstored : (x : Dbref) (path : List (List ℕ)) (w : Live) → TouchesNotes w (unstored x path w)
unfolding unstored
touching_unstored x path w = record { objects = noted_at (without_prop path) (λ e. refl) x w.objects; traced = traced_along acts refl refl w _ (goes_set acts (field.unstored path) x w refl); connections = refl; tune = refl }

-- what only shows touches no more
pub notes_quiet : (f : Change) → Quiet f → Keeps TouchesNotes f
notes_quiet f q = keeps_more f (λ w v s. record {
  objects = ap (λ (es : List Entry). map without_props es) s.objects;
  traced = traced_as w.objects w.objects v.objects s.objects (traced_itself w.objects);
  connections = s.connections;
  tune = s.tune;
}) q

pub touching_one : (player : Dbref) (text : List ℕ) (w : Live) → TouchesNotes w (tell_player player text w)
touching_one player text w = (notes_quiet _ (quiet_tell_player player text)).law w

pub touching_others : (room but : Dbref) (text : List ℕ) (w : Live) → TouchesNotes w (tell_others room but text w)
touching_others room but text w = (notes_quiet _ (quiet_tell_others room but text)).law w

pub touching_draw : (w : Live) → TouchesNotes w (draw w)
touching_draw w = (notes_quiet _ quiet_draw).law w
