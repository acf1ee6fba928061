-- A dump is begun where one is due, and none where the run is stopping.
use Rattle.std.proofs.Common.{◌≡◌, ℕ, Bool, true, false, ◌&&◌, ◌||◌, ◌==◌, List, sym, ◌∙◌, ap, subst, None}
use Rattle.std.specs.Prelude.{is_none}
use Rattle.std.proofs.lemmas.Bool.{cond-false, not-false}
use Rattle.muck_model.specs.declared.event.Event.{Event}
use Rattle.muck_model.specs.declared.event.Event.TheVariants.{Idle, StopSeen}
use Rattle.spec_events.specs.World.{World, runs_dump}
use Rattle.spec_events.specs.Steps.{is_lawful, is_dump_due, makes_dumps, may_cut}
use Rattle.spec_events.specs.Histories.{History, now}
use Rattle.muck_dumping.specs.inner.Dumps.{by}
use Rattle.muck_dumping.specs.declared.parts.Pending.{Pending}
use Rattle.muck_dumping.specs.declared.store.Store.{Store}
use Rattle.muck_dumping.specs.inner.Between.{IsReady, IsBatchAtCut, base_in, next_number, IsPending}
use Rattle.muck_dumper.specs.declared.deeds.Did.{Did}
use Rattle.muck_dumper.specs.declared.deeds.Did.TheVariants.{Idled, Began, Stops, Over, Failed}
use Rattle.muck_dumper.specs.inner.Steps.{event_of, MadeBy, bare, LeavesBy, KeptBy}

pub sees_lawful : (w : World) → w.dead ≡ false → w.stopping ≡ true → is_lawful w (by 9 StopSeen) ≡ true
unfolding is_lawful
sees_lawful w alive stopping = cond-false _ _ _ alive ∙ stopping

-- how it leaves
pub left_made : (did : Did) (h k : History) → LeavesBy did h k → MadeBy (event_of did) h k
left_made Stops h k is = bare is
left_made Over h k is = bare is
left_made Idled h k is = absurd is
left_made (Began p) h k is = absurd is
left_made Failed h k is = absurd is

pub left_kept : {D : Type 0} (tells : Bool) (seen : D → List ℕ) (moment : D → ℕ) (images : D → ℕ → List ℕ → Type 0) (faults : D → ℕ) (store : Store) (f s : D) (did : Did) (h k : History) → LeavesBy did h k →
    KeptBy tells seen moment images faults store f s did h k
left_kept tells seen moment images faults store f s Stops h k is = is
left_kept tells seen moment images faults store f s Over h k is = is
left_kept tells seen moment images faults store f s Idled h k is = absurd is
left_kept tells seen moment images faults store f s (Began p) h k is = absurd is
left_kept tells seen moment images faults store f s Failed h k is = absurd is

pub dumper_cuts : (w : World) → w.dead ≡ false → w.dumps.running ≡ None → is_lawful w (by 9 Idle) ≡ false → may_cut w 9 ≡ true
unfolding is_lawful
dumper_cuts w alive idle busy = ap (λ o. makes_dumps 9 && is_none o && (9 == 0 || is_dump_due w)) idle ∙ not-false (is_dump_due w) (sym (cond-false _ _ _ alive) ∙ busy)

pub made_from : (event : Event) (h h' k : History) → h' ≡ h → MadeBy event h' k → MadeBy event h k
made_from event h h' k is made = subst (λ (x : History). MadeBy event x k) is made

pub kept_from : {D : Type 0} (tells : Bool) (seen : D → List ℕ) (moment : D → ℕ) (images : D → ℕ → List ℕ → Type 0) (faults : D → ℕ) (store : Store) (f s : D) (p : Pending) (h h' k : History) → h' ≡ h →
    runs_dump p.number (now k).dumps ≡ true → IsBatchAtCut (base_in store.log) k p →
    ((mounted : ℕ) → tells ≡ true → IsReady seen moment images faults store.log f s mounted h' → IsPending seen moment images faults store.log f s mounted k p) → p.number ≡ next_number store → KeptBy tells seen moment images faults store f s (Began p) h k
kept_from tells seen moment images faults store f s p h h' k is runs batch pending number =
    subst (λ (x : History). KeptBy tells seen moment images faults store f s (Began p) x k) is (runs, batch, pending, number)
