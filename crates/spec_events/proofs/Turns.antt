-- Each step changes only what is open.
use Rattle.std.proofs.Common.{◌≡◌, ℕ, true, false, zero, suc, List, [], ◌∷◌, refl, ◌∙◌, None}
use Rattle.muck_model.specs.declared.event.Entry.{Entry}
use Rattle.muck_model.specs.declared.event.Event.{Event}
use Rattle.muck_model.specs.declared.tune.Tune.{Tune}
use Rattle.muck_model.specs.declared.event.Event.TheVariants.{Opened, Input, Closed, Exec, Slice, Take, Cut, Stored, DumpFailed}
use Rattle.spec_live.specs.declared.saving.Saving.{Saving}
use Rattle.spec_live.specs.Objects.{Entry as Kept, mark_in}
use Rattle.spec_live.specs.Saving.{pending, saving_done, due_again}
use Rattle.spec_live.specs.Start.{first_objects}
use Rattle.spec_live.specs.Boards.{player_in, connection_opened, connection_closed, line_added, bytes_taken}
use Rattle.spec_live.specs.Lives.{Live, change_followed, reading, on_board}
use Rattle.spec_live.proofs.Savings.{mark_resaved}
use Rattle.spec_commands.specs.Talk.{gone_away}
use Rattle.spec_live.proofs.Lives.{readies}
use Rattle.spec_rights.proofs.Shown.{loose_one}
use Rattle.spec_commands.proofs.Numbered.{leavers_ties}
use Rattle.spec_commands.proofs.Lines.{quiet_parted}
use Rattle.muck_queue.specs.Queues.{is_tied_to, claimed, released}
use Rattle.muck_queue.specs.inner.Numbered.{IsNumbered}
use Rattle.spec_events.specs.World.{World, world_booted, starting_world, connection, askers_of, on_live}
use Rattle.spec_events.specs.Dumping.{resaved, dump_stored, dump_failed, told_each}
use Rattle.spec_events.specs.Steps.{effect, happened}
use Rattle.spec_events.specs.Licences.{Untouched, DumpLicensed, EventLicensed}
use Rattle.spec_events.specs.Histories.{AllLicensed}
use Rattle.spec_events.proofs.Quietly.{quiet_told_each}
use Rattle.spec_events.proofs.Endings.{IsTold, processes_remain, tied_remain}
use Rattle.spec_events.proofs.Done.{none_ends, undisturbed_quietly, turn_licensed, told_by, told_done}
use Rattle.spec_events.proofs.Taken.{told_sliced}
use Rattle.spec_events.proofs.Chained.{slice_licensed}
use Rattle.spec_events.proofs.Happening.{effect-seen, effect-starts}
use Rattle.spec_live.proofs.Tracing.{mark_stilled}
use Rattle.spec_events.proofs.Numbers.{numbered_effect, rising_starting, rising_booted}

-- what a player does by a line is open to it, and at the login screen no object changes
pub exec_licensed : (d : ℕ) (w : World) (party : ℕ) → IsTold w.live → EventLicensed (Exec d) w (happened w party (Exec d))
exec_licensed d w party told = turn_licensed d w (connection d w) refl told

pub gone_away_untouched : (d : ℕ) (w : Live) → Untouched w (gone_away d w)
unfolding gone_away reading change_followed connection_closed
gone_away_untouched d w =
    let parting = quiet_parted (player_in d w.board) in
    let v : Live = on_board (connection_closed d) w in
    let shown = parting.law v in
    record { objects = shown.objects; tune = shown.tune }

-- where objects stand otherwise to the dumps, and a text is shown
dump_licensed : (f : Saving → Saving) (ds : List ℕ) (text : List ℕ) (w : World) → DumpLicensed f w (on_live (told_each ds text) (on_live (resaved f) w))
dump_licensed f ds text w =
    let u : World = on_live (resaved f) w in
    let s = (quiet_told_each ds text).law u.live in (
      record { objects = s.objects; tune = s.tune },
      none_ends w (on_live (told_each ds text) u) refl,
      leavers_ties (λ c. false) w.live.board.connections (told_each ds text u.live).board.connections (readies u.live (told_each ds text u.live) s).ties,
    )

event_licensed : (event : Event) (w : World) (party : ℕ) → IsTold w.live → IsNumbered w.queue → EventLicensed event w (happened w party event)
unfolding connection_opened line_added bytes_taken claimed released
event_licensed (Exec d) w party told rising = exec_licensed d w party told
event_licensed (Slice pid) w party told rising = let s = slice_licensed pid w told rising in record { units = s.units; chained = s.chained; leads = s.leads; processes = s.processes; whole = s.whole }
event_licensed (Closed d) w party told rising =
    (gone_away_untouched d w.live, processes_remain (λ p. is_tied_to d p ≡ true) (λ p. is_tied_to d p ≡ true) w (happened w party (Closed d)) (λ p m. m) (tied_remain d w.queue))
event_licensed (Opened d) w party told rising = (record { objects = refl; tune = refl }, none_ends w (happened w party (Opened d)) refl)
event_licensed (Input d line) w party told rising = undisturbed_quietly (λ c. false) (on_board (line_added d line)) w (loose_one d _ (λ c. refl))
event_licensed (Take d n) w party told rising = undisturbed_quietly (λ c. false) (on_board (bytes_taken d n)) w (loose_one d _ (λ c. refl))
event_licensed (Cut k) w party told rising =
    (record { objects = refl; tune = refl }, none_ends w (happened w party (Cut k)) refl, leavers_ties (λ c. false) w.live.board.connections w.live.board.connections refl)
event_licensed (Stored k) w party told rising = dump_licensed saving_done (askers_of w.dumps) (dump_stored k) w
event_licensed (DumpFailed k) w party told rising = dump_licensed due_again (askers_of w.dumps) dump_failed w
event_licensed event w party told rising = (record { objects = refl; tune = refl }, none_ends w (happened w party event) refl, leavers_ties (λ c. false) w.live.board.connections w.live.board.connections refl)

-- how objects stand to the dumps is nothing that is to be told
told_resaved : (f : Saving → Saving) (w : Live) → IsTold w → IsTold (resaved f w)
told_resaved f w h n = mark_resaved f n w.objects ∙ h n

told_dump : (f : Saving → Saving) (ds : List ℕ) (text : List ℕ) (w : Live) → IsTold w → IsTold (told_each ds text (resaved f w))
told_dump f ds text w h = told_by (resaved f w) (told_each ds text (resaved f w)) ((quiet_told_each ds text).law (resaved f w)).objects (told_resaved f w h)

told_happened : (event : Event) (w : World) (party : ℕ) → IsTold w.live → IsTold (happened w party event).live
told_happened (Exec d) w party h = told_done d w (connection d w) h
told_happened (Slice pid) w party h = told_sliced pid w h
told_happened (Closed d) w party h = told_by w.live (gone_away d w.live) (gone_away_untouched d w.live).objects h
told_happened (Cut k) w party h = told_resaved pending w.live h
told_happened (Stored k) w party h = told_dump saving_done (askers_of w.dumps) (dump_stored k) w.live h
told_happened (DumpFailed k) w party h = told_dump due_again (askers_of w.dumps) dump_failed w.live h
told_happened event w party h = h

pub told_effect : (w : World) (e : Entry) → IsTold w.live → IsTold (effect w e).live
told_effect w e h = effect-seen (λ (os : List Kept). (n : ℕ) → mark_in os n ≡ None) (λ v k n. mark_stilled v.live.objects n ∙ k n) w e (told_happened e.event w e.party h)

-- whole histories, from a world of which nothing is to be told, and in which the numbers of the processes rise
pub all_licensed : (w : World) (es : List Entry) → IsTold w.live → IsNumbered w.queue → AllLicensed w es
all_licensed w [] told rising = tt
all_licensed w (entry ∷ entries) told rising =
    ((event_licensed entry.event w entry.party told rising, effect-starts w entry), all_licensed (effect w entry) entries (told_effect w entry told) (numbered_effect w entry rising))

told_starting : IsTold starting_world.live
unfolding starting_world world_booted first_objects mark_in
told_starting zero = refl
told_starting (suc zero) = refl
told_starting (suc (suc n)) = refl

-- as from the first
pub all_licensed_starting : (es : List Entry) → AllLicensed starting_world es
all_licensed_starting es = all_licensed starting_world es told_starting rising_starting

told_booted : (objects : List Kept) (tune : Tune) (moment start : ℕ) → ((n : ℕ) → mark_in objects n ≡ None) → IsTold (world_booted objects tune moment start).live
unfolding world_booted
told_booted objects tune moment start none n = none n

-- as from any that was booted with objects of which nothing is to be told
pub all_licensed_booted : (objects : List Kept) (tune : Tune) (moment start : ℕ) → ((n : ℕ) → mark_in objects n ≡ None) → (es : List Entry) → AllLicensed (world_booted objects tune moment start) es
all_licensed_booted objects tune moment start none es =
    all_licensed (world_booted objects tune moment start) es (told_booted objects tune moment start none) (rising_booted objects tune moment start)
