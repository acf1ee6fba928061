-- Each event goes by steps: so a world never has fewer objects than it had, and behind entries among which no dump begins what isn't due wasn't before, and is as it was. Within an event nothing changes where players
-- stood when it began.
use Rattle.std.proofs.Common.{◌≡◌, ℕ, ◌≤◌, zero, suc, Bool, true, false, List, [], ◌∷◌, length, take, refl, sym, ◌∙◌, subst, arith}
use Rattle.std.specs.List.{list_any}
use Rattle.std.proofs.lemmas.Bool.{false≢true, or_left, or_right}
use Rattle.muck_model.specs.declared.event.Entry.{Entry}
use Rattle.muck_model.specs.declared.event.Event.{Event}
use Rattle.muck_model.specs.declared.event.Event.TheVariants.{Opened, Input, Closed, Exec, Slice, Take, Cut, Stored, DumpFailed}
use Rattle.spec_live.specs.Saving.{Marked}
use Rattle.spec_live.specs.Stood.{stilled, SameStood}
use Rattle.spec_live.specs.Output.{output_taken}
use Rattle.spec_live.specs.Connections.{lined}
use Rattle.spec_live.specs.Boards.{player_in, connection_closed, line_added, bytes_taken}
use Rattle.spec_live.specs.Lives.{Live, change_followed, reading, on_board}
use Rattle.spec_live.proofs.Keeping.{stays, goes, one, join}
use Rattle.spec_live.proofs.Steps.{Name, Begun, Stilled, May}
use Rattle.spec_live.proofs.Walks.{walk_begun, walk_stilled}
use Rattle.spec_live.proofs.Lives.{Goes, board, shows, hears, opens, closes, goes_objects, fewer_along, marked_along, wider}
use Rattle.spec_live.proofs.Tracing.{stood_along}
use Rattle.spec_rights.proofs.Shown.{quiet_one, loose_one}
use Rattle.spec_commands.specs.Talk.{welcome, gone_away}
use Rattle.spec_commands.proofs.Lines.{quiet_parted}
use Rattle.spec_events.specs.World.{World, connection}
use Rattle.spec_events.specs.Steps.{effect, happened, resting}
use Rattle.spec_events.specs.Histories.{after}
use Rattle.spec_events.specs.Logged.{is_cut}
use Rattle.spec_events.proofs.Quietly.{lively}
use Rattle.spec_events.proofs.Done.{done_going}
use Rattle.spec_events.proofs.Happening.{effect-live}
use Rattle.spec_events.proofs.Taken.{sliced_going}
use Rattle.spec_events.proofs.Reached.{stored-going, failed-going}

-- Whatever there is, whether a dump may begin, and whether another event may.
abbrev pub every : Bool → Bool → May
every begins stills Begun = begins
every begins stills Stilled = stills
every begins stills _ = true

every_lively : (b s : Bool) (w v : Live) → Goes lively w v → Goes (every b s) w v
every_lively b s w v p = wider lively (every b s) up w v p
  where
    up : (name : Name) → lively name ≡ true → every b s name ≡ true
    up Begun h = absurd (false≢true h)
    up Stilled h = absurd (false≢true h)
    up _ h = refl

gone_goes : (b s : Bool) (d : ℕ) (w : Live) → Goes (every b s) w (gone_away d w)
unfolding gone_away reading change_followed
gone_goes b s d w = let v : Live = on_board (connection_closed d) w in goes (board _ w (closes d w.board refl)) (one (shows v _ refl ((quiet_parted (player_in d w.board)).law v)))

pub goes_happened : (b s : Bool) (event : Event) (w : World) (party : ℕ) → (is_cut event ≡ true → b ≡ true) → Goes (every b s) w.live (happened w party event).live
unfolding line_added bytes_taken
goes_happened b s (Opened d) w party may = one (board _ w.live (opens d welcome w.live.board refl))
goes_happened b s (Input d line) w party may = one (hears w.live _ refl ((loose_one d (lined line) (λ c. refl)).law w.live))
goes_happened b s (Closed d) w party may = gone_goes b s d w.live
goes_happened b s (Exec d) w party may = every_lively b s w.live _ (done_going d w (connection d w) refl).goes
goes_happened b s (Slice pid) w party may = every_lively b s w.live _ (sliced_going pid w).goes
goes_happened b s (Take d n) w party may = one (shows w.live _ refl ((quiet_one d (λ c. record c { output = output_taken n c.output }) (λ c. refl)).law w.live))
goes_happened b s (Cut k) w party may = goes_objects (every b s) w.live _ (walk_begun (every b s) w.live.objects (may refl))
goes_happened b s (Stored k) w party may = every_lively b s w.live _ (stored-going k w).goes
goes_happened b s (DumpFailed k) w party may = every_lively b s w.live _ (failed-going w).goes
goes_happened b s event w party may = stays

-- and where another event begins behind it
goes_resting : (b : Bool) (event : Event) (w : World) → Goes (every b true) w.live (resting event w).live
goes_resting b (Exec d) w = goes_objects (every b true) w.live (stilled w.live.objects) (walk_stilled (every b true) w.live.objects refl)
goes_resting b (Slice pid) w = goes_objects (every b true) w.live (stilled w.live.objects) (walk_stilled (every b true) w.live.objects refl)
goes_resting b (Closed d) w = goes_objects (every b true) w.live (stilled w.live.objects) (walk_stilled (every b true) w.live.objects refl)
goes_resting b event w = stays

pub goes_effect : (b : Bool) (w : World) (e : Entry) → (is_cut e.event ≡ true → b ≡ true) → Goes (every b true) w.live (effect w e).live
goes_effect b w e may =
    subst (λ (l : Live). Goes (every b true) w.live l) (sym (effect-live w e)) (join (goes_happened b true e.event w e.party may) (goes_resting b e.event (happened w e.party e.event)))

-- where players stood when the event began is as it was
pub stood_kept : (event : Event) (w : World) (party : ℕ) → SameStood w.live.objects (happened w party event).live.objects
stood_kept event w party = stood_along (every true false) refl w.live (happened w party event).live (goes_happened true false event w party (λ c. refl))

pub goes_after : (b : Bool) (w : World) (es : List Entry) → (list_any (λ (e : Entry). is_cut e.event) es ≡ true → b ≡ true) → Goes (every b true) w.live (after w es).live
goes_after b w [] may = stays
goes_after b w (e ∷ es) may = join (goes_effect b w e (λ c. may (or_left _ _ c))) (goes_after b (effect w e) es (λ c. may (or_right (is_cut e.event) _ c)))

pub marked_after : (w : World) (es : List Entry) → list_any (λ (e : Entry). is_cut e.event) es ≡ false → Marked w.live.objects (after w es).live.objects
marked_after w es none = marked_along (every false true) refl w.live (after w es).live (goes_after false w es (λ c. sym none ∙ c))

-- of two fronts of a history no fewer are behind the longer one
pub no_fewer_front : (w : World) (h : List Entry) (n m : ℕ) → n ≤ m → length (after w (take n h)).live.objects ≤ length (after w (take m h)).live.objects
no_fewer_front w h zero m le = fewer_along (every true true) w.live (after w (take m h)).live (goes_after true w (take m h) (λ c. refl))
no_fewer_front w h (suc n) zero le = absurd (omega (arith, le))
no_fewer_front w [] (suc n) (suc m) le = omega arith
no_fewer_front w (e ∷ h) (suc n) (suc m) le = no_fewer_front (effect w e) h n m (omega (arith, le))
