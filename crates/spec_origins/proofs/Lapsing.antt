-- Of whatever something is to be told, it is gone or has another source.
use Rattle.std.proofs.Common.{◌≡◌, ℕ, true, false, [], refl, sym, ◌∙◌, ap, Option, Some, None, inl, inr}
use Rattle.std.specs.Option.{option_map_or}
use Rattle.std.proofs.lemmas.Bool.{and_parts}
use Rattle.std.proofs.lemmas.Option.{none-some}
use Rattle.muck_model.specs.declared.dbref.Dbref.{Dbref}
use Rattle.spec_live.specs.declared.mark.Mark.{Mark}
use Rattle.spec_live.specs.declared.object.Object.{Object}
use Rattle.spec_live.specs.Objects.{dbref_of, mark_in, object_at}
use Rattle.spec_live.specs.Lives.{Live}
use Rattle.spec_rights.specs.declared.act.Actor.{Actor}
use Rattle.spec_rights.specs.Licence.{Freedom, Judge}
use Rattle.spec_rights.proofs.Licences.{judge, MarkOpen, SameMarks}
use Rattle.spec_events.specs.World.{World}
use Rattle.spec_events.specs.Following.{swept, settled}
use Rattle.spec_events.specs.Endings.{Lapsed}
use Rattle.spec_events.proofs.Quietly.{quietly_swept}
use Rattle.spec_events.proofs.Told.{told_at}
use Rattle.spec_events.proofs.Endings.{IsTold}

abbrev pub IsLapsing : Live → Live → Type 0
IsLapsing w v = (k : ℕ) (m : Mark) → mark_in v.objects k ≡ Some m → Lapsed (dbref_of k) w v

pub told_lapse : (w v : Live) → v.objects ≡ w.objects → IsTold w → IsLapsing w v
told_lapse w v is told k m e = absurd (none-some m (sym (told k) ∙ ap (λ os. mark_in os k) (sym is) ∙ e))

gone_by : (j : Judge) (x : Dbref) (old new : Option Mark) (m : Mark) (q : Option Object) → j.free.edits x ≡ false → old ≡ None → new ≡ Some m → MarkOpen j x old new q → q ≡ None
gone_by j x old new m None c e f o = refl
gone_by j x old new m (Some p) c e f (inl s) = absurd (none-some m (sym (s ∙ e) ∙ f))
gone_by j x old new m (Some p) c e f (inr l) = absurd (never (sym c ∙ (and_parts _ _ l).0))
  where
    never : false ≡ true → ⊥
    never e = cc

-- where an actor may change no source, it is gone
pub marks_lapse : (a : Actor) (free : Freedom) (w v : Live) → ((x : Dbref) → free.edits x ≡ false) → IsTold w → SameMarks (judge a free w.objects) w.objects v.objects → IsLapsing w v
marks_lapse a free w v none told marks k m e = inl (gone_by (judge a free w.objects) (dbref_of k) _ _ m (object_at (dbref_of k) v.objects) (none (dbref_of k)) (told k) e (marks k))

pub objects_settled : (x : Dbref) (w : World) → object_at x (settled w).live.objects ≡ object_at x w.live.objects
unfolding settled
objects_settled x w = told_at x (swept 0 w.live.objects w).live.objects ∙ ap (object_at x) (quietly_swept 0 w.live.objects w).objects

lapsed_as : (x : Dbref) (w u v : Live) → object_at x v.objects ≡ object_at x u.objects → Lapsed x w u → Lapsed x w v
lapsed_as x w u v e (inl g) = inl (e ∙ g)
lapsed_as x w u v e (inr h) = inr (λ s. h (ap (λ (q : Option Object). option_map_or (λ o. o.lines) q []) (sym e) ∙ s))

-- and so it is once that was told
pub lapse_settled : (w v : Live) (u : World) → v.objects ≡ (settled u).live.objects → IsLapsing w u.live → (k : ℕ) (m : Mark) → mark_in u.live.objects k ≡ Some m → Lapsed (dbref_of k) w v
lapse_settled w v u e lapsing k m f = lapsed_as (dbref_of k) w u.live v (ap (object_at (dbref_of k)) e ∙ objects_settled (dbref_of k) u) (lapsing k m f)
