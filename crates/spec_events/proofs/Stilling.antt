-- Between entries nobody has moved; and behind what happened, where a player stood is where it stands before the entry.
use Rattle.std.proofs.Common.{◌≡◌, ◌∙◌, ℕ, List, Option, sym, ap, subst}
use Rattle.std.specs.Option.{option_and_then}
use Rattle.muck_model.specs.declared.event.Entry.{Entry}
use Rattle.muck_model.specs.declared.event.Event.{Event}
use Rattle.muck_model.specs.declared.event.Event.TheVariants.{Exec, Slice, Closed, Cut, Stored, DumpFailed}
use Rattle.spec_live.specs.declared.object.Object.{Object}
use Rattle.spec_live.specs.declared.saving.Saving.{Saving}
use Rattle.spec_live.specs.Objects.{Entry as Kept, object_in}
use Rattle.spec_live.specs.Saving.{pending, saving_done, due_again, all_saving}
use Rattle.spec_live.specs.Stood.{standing, stood_in, stands_in, IsStill, SameStood}
use Rattle.spec_live.specs.Lives.{Live}
use Rattle.spec_live.proofs.Savings.{object_resaved}
use Rattle.spec_live.proofs.Tracing.{stood_resaved, is_stilled, stood_before}
use Rattle.spec_events.specs.World.{World, askers_of}
use Rattle.spec_events.specs.Dumping.{resaved, dump_stored, dump_failed, told_each}
use Rattle.spec_events.specs.Steps.{happened, resting, effect}
use Rattle.spec_events.proofs.Quietly.{quiet_told_each}
use Rattle.spec_events.proofs.Happening.{effect-live}
use Rattle.spec_events.proofs.Walked.{stood_kept}

still_alike : (es fs : List Kept) → SameStood es fs → ((k : ℕ) → object_in fs k ≡ object_in es k) → IsStill es → IsStill fs
unfolding stands_in
still_alike es fs stood same still = λ k. stood k ∙ still k ∙ ap (λ (o : Option Object). option_and_then standing o) (sym (same k))

still_resaved : (f : Saving → Saving) (es : List Kept) → IsStill es → IsStill (all_saving f es)
still_resaved f es still = still_alike es (all_saving f es) (stood_resaved f es) (λ k. object_resaved f k es) still

still_dump : (f : Saving → Saving) (ds : List ℕ) (text : List ℕ) (w : Live) → IsStill w.objects → IsStill (told_each ds text (resaved f w)).objects
still_dump f ds text w still = subst IsStill (sym ((quiet_told_each ds text).law (resaved f w)).objects) (still_resaved f w.objects still)

-- an event that hooks follow ends so, and another one leaves it so
still_event : (event : Event) (w : World) (party : ℕ) → IsStill w.live.objects → IsStill (resting event (happened w party event)).live.objects
still_event (Exec d) w party still = is_stilled (happened w party (Exec d)).live.objects
still_event (Slice pid) w party still = is_stilled (happened w party (Slice pid)).live.objects
still_event (Closed d) w party still = is_stilled (happened w party (Closed d)).live.objects
still_event (Cut k) w party still = still_resaved pending w.live.objects still
still_event (Stored k) w party still = still_dump saving_done (askers_of w.dumps) (dump_stored k) w.live still
still_event (DumpFailed k) w party still = still_dump due_again (askers_of w.dumps) dump_failed w.live still
still_event event w party still = still

pub still_effect : (w : World) (e : Entry) → IsStill w.live.objects → IsStill (effect w e).live.objects
still_effect w e still = subst (λ (l : Live). IsStill l.objects) (sym (effect-live w e)) (still_event e.event w e.party still)

-- where each player stood is where it stands before the event
pub stood_happened : (event : Event) (w : World) (party : ℕ) → IsStill w.live.objects → (k : ℕ) → stood_in (happened w party event).live.objects k ≡ stands_in w.live.objects k
stood_happened event w party still = stood_before w.live.objects (happened w party event).live.objects still (stood_kept event w party)
