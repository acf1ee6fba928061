-- What an entry leaves is what its event left, in which another event begins where hooks follow it, and the programs that hooks start behind it, as by_hook says. What stays so where another event
-- begins and where such a program is started is so of the effect (`effect-keeps`), and all laws below rest on that alone.
use Rattle.std.proofs.Common.{◌≡◌, ◌≢◌, Bool, true, false, refl, sym, ◌∙◌, ap, subst, Option, List, [], ℕ}
use Rattle.std.specs.Prelude.{is_some}
use Rattle.std.specs.List.{flat_map}
use Rattle.muck_model.specs.declared.dbref.Dbref.{Dbref}
use Rattle.muck_model.specs.declared.event.Entry.{Entry}
use Rattle.muck_model.specs.declared.event.Event.{Event}
use Rattle.muck_model.specs.declared.event.Event.TheVariants.{Exec, Slice, Closed}
use Rattle.spec_live.specs.Objects.{Entry as Object, object_at}
use Rattle.spec_live.specs.Lives.{Live}
use Rattle.muck_library.specs.Library.{Library}
use Rattle.muck_queue.specs.declared.process.Process.{Process}
use Rattle.muck_queue.specs.Queues.{process_added}
use Rattle.spec_hooks.specs.Causes.{causes}
use Rattle.spec_events.specs.declared.starting.Call.{Call}
use Rattle.spec_events.specs.World.{World, on_queue, with_library}
use Rattle.spec_events.specs.Starting.{by_hook, new_process, program_begun}
use Rattle.spec_events.specs.Hooked.{calls_of, hooked}
use Rattle.spec_events.specs.OnlyStarts.{OnlyStarts}
use Rattle.spec_events.specs.Steps.{happened, rested, resting, hooked_by, effect}
use Rattle.spec_events.proofs.Begun.{begun_keeps}
use Rattle.spec_events.proofs.Hooking.{IsCall, calls_there, all_keep, each_flat, only_starts, none_starts}

-- hooks follow it
abbrev pub is_hooked : Event → Bool
is_hooked (Exec d) = true
is_hooked (Slice pid) = true
is_hooked (Closed d) = true
is_hooked event = false

-- of all others the effect is what happened
pub effect-is : (w : World) (e : Entry) → is_hooked e.event ≡ false → effect w e ≡ happened w e.party e.event
unfolding effect
effect-is w e follows = none e.event follows
  where
    none : (event : Event) → is_hooked event ≡ false → hooked_by w event (happened w e.party event) ≡ happened w e.party event
    none (Exec d) follows = absurd cc
    none (Slice pid) follows = absurd cc
    none (Closed d) follows = absurd cc
    none event follows = refl

-- what stays so where something that is there starts a program so
abbrev pub Lasts : (World → Type 0) → Type 0
Lasts P = (c : Call) (w : World) → is_some (object_at c.trigger w.live.objects) ≡ true → P w → P (program_begun (by_hook w) c w).0

-- and where another event begins
abbrev pub Rests : (World → Type 0) → Type 0
Rests P = (w : World) → P w → P (rested w)

pub hooked-keeps : (P : World → Type 0) → Lasts P → (w v : World) (text : Option (Dbref × List ℕ)) → P v → P (hooked w v text)
unfolding hooked
hooked-keeps P lasts w v text h =
    let es = v.live.objects in
    let cs = causes w.live v.live text in
    all_keep es P (λ c u at call k. lasts c u (ap (λ (os : List Object). is_some (object_at c.trigger os)) at ∙ call.0) k) (flat_map (calls_of es) cs) (each_flat (IsCall es) (calls_of es) cs (calls_there es)) v refl h

pub effect-keeps : (P : World → Type 0) → Lasts P → Rests P → (w : World) (e : Entry) → P (happened w e.party e.event) → P (effect w e)
unfolding effect
effect-keeps P lasts rests w e h = by_event e.event (happened w e.party e.event) h
  where
    by_event : (event : Event) (v : World) → P v → P (hooked_by w event v)
    by_event (Exec d) v k = hooked-keeps P lasts w (rested v) _ (rests v k)
    by_event (Slice pid) v k = hooked-keeps P lasts w (rested v) _ (rests v k)
    by_event (Closed d) v k = hooked-keeps P lasts w (rested v) _ (rests v k)
    by_event event v k = k

-- a part that is the same where forms are built and processes join
lasts_part : {X : Type 0} (part : World → X) (x : X) → ((library : Library) (w : World) → part (with_library library w) ≡ part w) → ((p : Process) (w : World) → part (on_queue (process_added p) w) ≡ part w) → Lasts (λ u. part u ≡ x)
lasts_part part x forms joins c u there h = begun_keeps (λ v. part v ≡ x) (by_hook u) c (λ s y k. joins (new_process (by_hook u) c s) y ∙ k) u (forms _ u ∙ h)

-- and where another event begins
same_part : {X : Type 0} (part : World → X) → ((library : Library) (w : World) → part (with_library library w) ≡ part w) → ((p : Process) (w : World) → part (on_queue (process_added p) w) ≡ part w) → ((w : World) → part (rested w) ≡ part w) →
    (w : World) (e : Entry) → part (effect w e) ≡ part (happened w e.party e.event)
same_part part forms joins rests w e = effect-keeps (λ u. part u ≡ part (happened w e.party e.event)) (lasts_part part _ forms joins) (λ u h. rests u ∙ h) w e refl

-- The live part: another event begins in it, where hooks follow.

pub hooked-live : (w v : World) (text : Option (Dbref × List ℕ)) → (hooked w v text).live ≡ v.live
hooked-live w v text = hooked-keeps (λ u. u.live ≡ v.live) (lasts_part (λ u. u.live) v.live (λ library u. refl) (λ p u. refl)) w v text refl

pub effect-live : (w : World) (e : Entry) → (effect w e).live ≡ (resting e.event (happened w e.party e.event)).live
unfolding effect
effect-live w e = by_event e.event (happened w e.party e.event)
  where
    by_event : (event : Event) (v : World) → (hooked_by w event v).live ≡ (resting event v).live
    by_event (Exec d) v = hooked-live w (rested v) _
    by_event (Slice pid) v = hooked-live w (rested v) _
    by_event (Closed d) v = hooked-live w (rested v) _
    by_event event v = refl

-- Behind that programs are started, and nothing else is done.
pub effect-starts : (w : World) (e : Entry) → OnlyStarts (resting e.event (happened w e.party e.event)) (effect w e)
unfolding effect
effect-starts w e = by_event e.event (happened w e.party e.event)
  where
    by_event : (event : Event) (v : World) → OnlyStarts (resting event v) (hooked_by w event v)
    by_event (Exec d) v = only_starts w (rested v) _
    by_event (Slice pid) v = only_starts w (rested v) _
    by_event (Closed d) v = only_starts w (rested v) _
    by_event event v = none_starts v

-- so what another event leaves as it is, is so of the effect
pub effect-seen : (P : List Object → Type 0) → ((v : World) → P v.live.objects → P (rested v).live.objects) → (w : World) (e : Entry) → P (happened w e.party e.event).live.objects → P (effect w e).live.objects
effect-seen P rests w e h = subst (λ (l : Live). P l.objects) (sym (effect-live w e)) (by_event e.event (happened w e.party e.event) h)
  where
    by_event : (event : Event) (v : World) → P v.live.objects → P (resting event v).live.objects
    by_event (Exec d) v k = rests v k
    by_event (Slice pid) v k = rests v k
    by_event (Closed d) v k = rests v k
    by_event event v k = k

pub effect-board : (w : World) (e : Entry) → (effect w e).live.board ≡ (happened w e.party e.event).live.board
effect-board w e = same_part (λ u. u.live.board) (λ library u. refl) (λ p u. refl) (λ u. refl) w e

pub effect-claims : (w : World) (e : Entry) → (effect w e).queue.claims ≡ (happened w e.party e.event).queue.claims
unfolding process_added
effect-claims w e = same_part (λ u. u.queue.claims) (λ library u. refl) (λ p u. refl) (λ u. refl) w e

pub effect-moment : (w : World) (e : Entry) → (effect w e).moment ≡ (happened w e.party e.event).moment
effect-moment w e = same_part (λ u. u.moment) (λ library u. refl) (λ p u. refl) (λ u. refl) w e

pub effect-dumps : (w : World) (e : Entry) → (effect w e).dumps ≡ (happened w e.party e.event).dumps
effect-dumps w e = same_part (λ u. u.dumps) (λ library u. refl) (λ p u. refl) (λ u. refl) w e

pub effect-stopping : (w : World) (e : Entry) → (effect w e).stopping ≡ (happened w e.party e.event).stopping
effect-stopping w e = same_part (λ u. u.stopping) (λ library u. refl) (λ p u. refl) (λ u. refl) w e

pub effect-dead : (w : World) (e : Entry) → (effect w e).dead ≡ (happened w e.party e.event).dead
effect-dead w e = same_part (λ u. u.dead) (λ library u. refl) (λ p u. refl) (λ u. refl) w e
