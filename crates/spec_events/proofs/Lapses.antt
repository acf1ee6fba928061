-- What is to be told of an object tells that its program is gone, or that its source is another, and by that alone processes end.
use Rattle.std.proofs.Common.{◌≡◌, ℕ, true, false, List, [], refl, sym, ◌∙◌, ap, Option, Some, None, inl, inr}
use Rattle.std.specs.Prelude.{◌||◌}
use Rattle.std.specs.Option.{option_map_or}
use Rattle.std.proofs.lemmas.Bool.{and_parts}
use Rattle.std.proofs.lemmas.Option.{none-some}
use Rattle.muck_model.specs.declared.dbref.Dbref.{Dbref}
use Rattle.spec_live.specs.declared.mark.Mark.{Mark}
use Rattle.spec_live.specs.declared.object.Object.{Object}
use Rattle.spec_live.specs.Objects.{Entry, dbref_of, mark_in, object_at, same}
use Rattle.spec_live.specs.Lives.{Live}
use Rattle.spec_rights.specs.declared.act.Actor.{Actor}
use Rattle.spec_rights.specs.Levels.{owner_at}
use Rattle.spec_rights.specs.Verdict.{is_master}
use Rattle.spec_rights.specs.Licence.{Freedom, Judge}
use Rattle.spec_rights.proofs.Licences.{judge, MarkOpen, SameMarks}
use Rattle.muf_model.specs.Source.{Source}
use Rattle.muck_queue.specs.declared.process.Process.{Process}
use Rattle.muck_queue.specs.Queues.{is_in, runs_in}
use Rattle.spec_events.specs.World.{World}
use Rattle.spec_events.specs.Following.{swept, settled}
use Rattle.spec_processes.proofs.Ends.{IsSame}
use Rattle.spec_events.specs.Endings.{Lapsed, end_open, MayEnd, by_actor, by_program}
use Rattle.spec_events.proofs.Quietly.{quietly_swept}
use Rattle.spec_events.proofs.Told.{told_at}
use Rattle.spec_events.proofs.Endings.{IsTold, IsSteady, Lasting, lasting_settled}

-- of whatever something is to be told, it lapsed
abbrev pub IsLapsing : Live → Live → Type 0
IsLapsing w v = (k : ℕ) (m : Mark) → mark_in v.objects k ≡ Some m → Lapsed (dbref_of k) w v

pub told_lapse : (w v : Live) → v.objects ≡ w.objects → IsTold w → IsLapsing w v
told_lapse w v is told k m e = absurd (none-some m (sym (told k) ∙ ap (λ os. mark_in os k) (sym is) ∙ e))

gone_by : (j : Judge) (x : Dbref) (old new : Option Mark) (m : Mark) (q : Option Object) → j.free.edits x ≡ false → old ≡ None → new ≡ Some m → MarkOpen j x old new q → q ≡ None
gone_by j x old new m None c e f o = refl
gone_by j x old new m (Some p) c e f (inl s) = absurd (none-some m (sym (s ∙ e) ∙ f))
gone_by j x old new m (Some p) c e f (inr l) = absurd (never (sym c ∙ (and_parts _ _ l).0))
  where
    never : false ≡ true → ⊥
    never e = cc

-- where an actor may change no source, it is gone
pub marks_lapse : (a : Actor) (free : Freedom) (w v : Live) → ((x : Dbref) → free.edits x ≡ false) → IsTold w → SameMarks (judge a free w.objects) w.objects v.objects → IsLapsing w v
marks_lapse a free w v none told marks k m e = inl (gone_by (judge a free w.objects) (dbref_of k) _ _ m (object_at (dbref_of k) v.objects) (none (dbref_of k)) (told k) e (marks k))

pub objects_settled : (x : Dbref) (w : World) → object_at x (settled w).live.objects ≡ object_at x w.live.objects
unfolding settled
objects_settled x w = told_at x (swept 0 w.live.objects w).live.objects ∙ ap (object_at x) (quietly_swept 0 w.live.objects w).objects

lapsed_as : (x : Dbref) (w u v : Live) → object_at x v.objects ≡ object_at x u.objects → Lapsed x w u → Lapsed x w v
lapsed_as x w u v e (inl g) = inl (e ∙ g)
lapsed_as x w u v e (inr h) = inr (λ s. h (ap (λ (q : Option Object). option_map_or (λ o. o.lines) q []) (sym e) ∙ s))

-- a program that it runs lapsed
abbrev pub Cut : Live → Live → Process → Type 0
Cut w v p = (x : Dbref) × (runs_in x p ≡ true) × Lapsed x w v

-- it may end by who acts, or by what lapsed, alike in another way of going on
pub end_as : (a : Actor) (es : List Entry) (p q : Process) → IsSame p q → end_open a es p ≡ end_open a es q
end_as a es p q s =
    ap (λ d. is_master a || (same d a.user || same (owner_at es p.program) a.user)) (sym s.player) ∙ ap (λ d. is_master a || (same q.player a.user || same (owner_at es d) a.user)) (sym s.program)

pub by_lapse : (a : Actor) (w v : Live) (p : Process) → Cut w v p → MayEnd a w v p
by_lapse a w v p c = by_program c.0 c.1 c.2

pub steady_may : (a : Actor) (w v : Live) → IsSteady (MayEnd a w v)
steady_may a w v p q s (by_actor e) = by_actor (end_as a w.objects p q s ∙ e)
steady_may a w v p q s (by_program x r l) = by_program x (ap (λ (t : Option Source). option_map_or (is_in x) t false) (sym s.running) ∙ r) l

-- what follows ends none but such as run what lapsed
pub lasting_lapse : (may : Process → Type 0) → IsSteady may → (w v : Live) (u : World) → ((p : Process) → Cut w v p → may p) → v.objects ≡ (settled u).live.objects → IsLapsing w u.live →
    Lasting may u.queue (settled u).queue
lasting_lapse may steady w v u cut e lapsing =
    lasting_settled may steady u (λ k m f p r. cut p (
      dbref_of k,
      r,
      lapsed_as (dbref_of k) w u.live v (ap (object_at (dbref_of k)) e ∙ objects_settled (dbref_of k) u) (lapsing k m f),
    ))
