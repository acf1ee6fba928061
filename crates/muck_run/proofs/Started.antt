-- A run starts on the world of a log that was mounted.
use Rattle.std.proofs.Common.{◌≡◌, ℕ, true, false, List, length, refl, sym, ap, subst, ◌∙◌, Option, Some, None}
use Rattle.std.proofs.lemmas.Bool.{and_parts, leb-true}
use Rattle.std.proofs.lemmas.List.Elements.{All-weaker, recursion_from_All}
use Rattle.std.specs.Prelude.{All, nat_le, slice_get}
use Rattle.std.specs.List.{list_all}
use Rattle.std.specs.Option.{option_map, option_and_then}
use Rattle.muck_model.specs.declared.note.Note.{Note}
use Rattle.muck_model.specs.Parameters.{tune_fits}
use Rattle.muck_codec.specs.declared.stored.Stored.{Stored}
use Rattle.muck_codec.specs.inner.Stored.{AreProperties, IsStored}
use Rattle.muck_store.specs.Forms.{entry_of_stored, loaded}
use Rattle.muck_store.specs.Limits.{record_fits}
use Rattle.muck_store.specs.Whole.{is_whole_store}
use Rattle.muck_store.proofs.Loaded.{get_loaded}
use Rattle.muck_store.proofs.Round.{persist_loaded}
use Rattle.muck_store.proofs.Sound.{whole_hangs}
use Rattle.muck_log.specs.inner.Mount.{IsMountedAs}
use Rattle.muck_log.specs.Store.{LogState}
use Rattle.muck_log.specs.World.{StoredWorld as Kept, is_fine}
use Rattle.spec_dumps.specs.Fronts.{persisted, file_most}
use Rattle.spec_dumps.specs.inner.Holding.{Rests}
use Rattle.spec_dumps.proofs.Begun.{rests_begun}
use Rattle.spec_events.specs.World.{world_booted}
use Rattle.spec_events.specs.Histories.{History, now, AllLawful, AllLicensed}
use Rattle.spec_events.specs.Passwords.{AllKnown}
use Rattle.spec_events.specs.Sourced.{AllSourced}
use Rattle.spec_denials.specs.Denials.{AllDenialsNamed}
use Rattle.spec_denials.proofs.Histories.{all_denials_named}
use Rattle.spec_origins.specs.Origins.{AllOrigins}
use Rattle.spec_origins.specs.Seats.{AllSeated}
use Rattle.spec_origins.specs.Stops.{AllStops}
use Rattle.spec_origins.specs.There.{StaysThere}
use Rattle.spec_origins.proofs.Histories.{all_origins_booted}
use Rattle.spec_origins.proofs.Waiting.{all_seated_booted}
use Rattle.spec_origins.proofs.Stopping.{all_stops}
use Rattle.spec_origins.proofs.Staying.{stays_there_booted}
use Rattle.spec_events.proofs.Passwords.{all_known_booted}
use Rattle.spec_events.proofs.SourcedEvents.{all_sourced_booted}
use Rattle.spec_events.proofs.Turns.{all_licensed_booted}
use Rattle.spec_live.specs.Objects.{Entry, mark_in, object_in}
use Rattle.spec_live.specs.Stood.{standing, stood_in, stands_in}
use Rattle.spec_live.specs.Boards.{early_board}
use Rattle.spec_live.specs.Consistent.{IsConsistent}
use Rattle.muck_model.specs.declared.event.Entry.{Entry as Happened}
use Rattle.muck_run.specs.inner.Dumps.{note_of}
use Rattle.spec_live.specs.Boards.{early_board}
use Rattle.muck_run.specs.inner.Opens.{all_within, Opens}
use Rattle.muck_run.specs.inner.Ends.{IsBootable, booted_at, unbegun_at, begun_at}
use Rattle.muck_run.proofs.Whole.{begun}

-- what is kept of a log that was mounted makes a world
pub bootable : (kept : Kept) → is_fine kept.objects kept.tune ≡ true → IsBootable kept
unfolding is_fine
bootable kept fine =
    let a = and_parts (nat_le (length kept.objects) 100000) _ fine in
    let b = and_parts (list_all record_fits kept.objects) _ a.1 in
    let c = and_parts (tune_fits kept.tune) (is_whole_store kept.objects) b.1 in
    record { few = leb-true (length kept.objects) 100000 a.0; whole = c.1; fit = b.0; tuned = c.0 }

pub properties : (os : List Stored) → All IsStored os → All (λ s. AreProperties s.props) os
properties os all = All-weaker IsStored (λ s. AreProperties s.props) (λ x s. s.props) os all

-- the objects of records have no marks
pub unmarked : (os : List Stored) (n : ℕ) → mark_in (loaded os) n ≡ None
unfolding mark_in entry_of_stored
unmarked os n = ap (λ (o : Option Entry). option_and_then (λ (e : Entry). e.mark) o) (get_loaded os n) ∙ by_cases (slice_get os n)
  where
    by_cases : (o : Option Stored) → option_and_then (λ (e : Entry). e.mark) (option_map (entry_of_stored os) o) ≡ None
    by_cases None = refl
    by_cases (Some s) = refl

-- nor has any of them moved
pub unmoved : (os : List Stored) (k : ℕ) → stood_in (loaded os) k ≡ stands_in (loaded os) k
unfolding stood_in stands_in object_in entry_of_stored
unmoved os k =
    ap (λ (o : Option Entry). option_and_then (λ (e : Entry). e.stood) o) (get_loaded os k) ∙ by_cases (slice_get os k)
    ∙ sym (ap (λ (o : Option Entry). option_and_then standing (option_map (λ (e : Entry). e.object) o)) (get_loaded os k))
  where
    by_cases : (o : Option Stored) → option_and_then (λ (e : Entry). e.stood) (option_map (entry_of_stored os) o) ≡ option_and_then standing (option_map (λ (e : Entry). e.object) (option_map (entry_of_stored os) o))
    by_cases None = refl
    by_cases (Some s) = refl

-- a run of such a world keeps to its licences, what runs in it is of its source, each denial names its rule, others keep theirs, and its players are known
pub licensed_from : (began : ℕ) (kept : Kept) (es : List Happened) → AllLicensed (booted_at began kept) es
licensed_from began kept es = all_licensed_booted (loaded kept.objects) kept.tune began began (unmarked kept.objects) es

pub sourced_from : (began : ℕ) (kept : Kept) (es : List Happened) → AllSourced (booted_at began kept) es
sourced_from began kept es = all_sourced_booted (loaded kept.objects) kept.tune began began es

pub denials_from : (began : ℕ) (kept : Kept) (es : List Happened) → AllDenialsNamed (booted_at began kept) es
denials_from began kept es = all_denials_named (booted_at began kept) es

pub origins_from : (began : ℕ) (kept : Kept) (es : List Happened) → AllOrigins (booted_at began kept) es
origins_from began kept es = all_origins_booted (loaded kept.objects) kept.tune began began (unmarked kept.objects) es

pub seats_from : (began : ℕ) (kept : Kept) (es : List Happened) → AllLawful (booted_at began kept) es → AllSeated (booted_at began kept) es
seats_from began kept es lawful = all_seated_booted (loaded kept.objects) kept.tune began began (unmarked kept.objects) es lawful

pub stops_from : (began : ℕ) (kept : Kept) (es : List Happened) → AllStops (booted_at began kept) es
stops_from began kept es = all_stops (booted_at began kept) es

pub there_from : (began : ℕ) (kept : Kept) (es : List Happened) → AllLawful (booted_at began kept) es → StaysThere (booted_at began kept) es
there_from began kept es lawful = stays_there_booted (loaded kept.objects) kept.tune began began (unmarked kept.objects) es lawful

pub known_from : (began : ℕ) (kept : Kept) (es : List Happened) → AllLawful (booted_at began kept) es → AllKnown (booted_at began kept) es
known_from began kept es lawful = all_known_booted (loaded kept.objects) kept.tune began began (unmarked kept.objects) es lawful

-- what a dump would store of that world is what was kept
pub held_again : (began : ℕ) (kept : Kept) → IsBootable kept → All (λ s. AreProperties s.props) kept.objects → kept ≡ persisted (booted_at began kept)
unfolding world_booted early_board
held_again began kept is props =
    ap (λ (os : List Stored). let k : Kept = record { objects = os; tune = kept.tune } in k)
    (sym (persist_loaded kept.objects is.few is.whole (recursion_from_All (λ s. AreProperties s.props) kept.objects props)))

pub hangs : (began : ℕ) (kept : Kept) → IsBootable kept → IsConsistent (booted_at began kept).live.objects
unfolding world_booted
hangs began kept is = (whole_hangs kept.objects is.few is.whole).world

-- the world of a run that begins lives, and no dump runs
pub begins_alive : (began : ℕ) (log : LogState) (note : Note) (h : History) → h ≡ begun_at began log note → (now h).dead ≡ false
unfolding now world_booted
begins_alive began log note h is = ap (λ (x : History). (now x).dead) is

pub begins_opens : (began : ℕ) (log : LogState) (note : Note) (h : History) → h ≡ begun_at began log note → Opens 0 h
unfolding world_booted early_board
begins_opens began log note h is = record { nobody = ap (λ (x : History). x.start.live.board.connections) is; opened = ap (λ (x : History). all_within 0 x.entries) is }

pub begins_idle : (began : ℕ) (log : LogState) (note : Note) (h : History) → h ≡ begun_at began log note → (now h).dumps.running ≡ None
unfolding now world_booted
begins_idle began log note h is = ap (λ (x : History). (now x).dumps.running) is

module _ {D : Type 0} (began : ℕ) (seen : D → List ℕ) (moment : D → ℕ) (images : D → ℕ → List ℕ → Type 0) (faults : D → ℕ) (log : LogState) (f s : D) (is : IsBootable log.chosen.held.world) (props : All (λ x. AreProperties x.props) log.chosen.held.world.objects) (on : IsMountedAs seen moment images file_most log f s) where
  rests_there : Rests seen moment images faults (Some log) f s log.chosen.held.number (begun (booted_at began log.chosen.held.world) (note_of moment faults f s (unbegun_at began log)))
  rests_there =
      rests_begun seen moment images faults log f s (booted_at began log.chosen.held.world) (note_of moment faults f s (unbegun_at began log)) on.mounted on.limit (held_again began log.chosen.held.world is props)
      (hangs began log.chosen.held.world is) refl (refl, refl) (refl, refl)

  -- a run that begins rests on the log
  pub rests_started : (held : Option LogState) (h : History) → held ≡ Some log → h ≡ begun_at began log (note_of moment faults f s (unbegun_at began log)) → Rests seen moment images faults held f s log.chosen.held.number h
  rests_started held h kept begins =
      subst (λ (l : Option LogState). Rests seen moment images faults l f s log.chosen.held.number h) (sym kept)
      (subst (λ (x : History). Rests seen moment images faults (Some log) f s log.chosen.held.number x) (sym begins) rests_there)
