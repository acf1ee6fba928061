-- Which dump runs, if one does, isn't changed by entries that are none of a dump.
use Rattle.std.proofs.Common.{◌≡◌, ℕ, true, false, List, [], ◌∷◌, refl, ap, sym, ◌∙◌, Option, Some, None}
use Rattle.std.specs.Prelude.{◌==◌}
use Rattle.std.specs.List.{list_any}
use Rattle.std.specs.Option.{option_map, option_map_or}
use Rattle.muck_laws.proofs.Truths.{none_first, none_later}
use Rattle.muck_model.specs.declared.event.Entry.{Entry}
use Rattle.muck_model.specs.declared.event.Event.{Event}
use Rattle.muck_model.specs.declared.event.Event.TheVariants.{Opened, Input, Closed, Moment, Exec, Planned, Claim, Slice, Commit, Lost, Idle, Take, Cut, Stored, DumpFailed, Halt, StopSeen, Died}
use Rattle.spec_events.specs.World.{World, Dumps, connection, others_than, runs_dump}
use Rattle.spec_events.specs.Steps.{effect, happened}
use Rattle.spec_events.specs.Histories.{History, after, now}
use Rattle.spec_events.proofs.Done.{done_going}
use Rattle.spec_events.proofs.Happening.{effect-dumps}
use Rattle.spec_events.proofs.Taken.{sliced_going}
use Rattle.spec_events.proofs.Runs.{now-grew}
use Rattle.spec_events.specs.Logged.{is_dump}
use Rattle.spec_dumps.specs.inner.Holding.{Quietly}

-- its number
abbrev number_of : Option (ℕ × List ℕ) → Option ℕ
number_of o = option_map (λ r. r.0) o

fewer_askers : (d : ℕ) (o : Option (ℕ × List ℕ)) → number_of (option_map (λ r. (r.0, others_than d r.1)) o) ≡ number_of o
fewer_askers d None = refl
fewer_askers d (Some r) = refl

number_happened : (event : Event) (w : World) (party : ℕ) → is_dump event ≡ false → number_of (happened w party event).dumps.running ≡ number_of w.dumps.running
number_happened (Opened d) w party e = refl
number_happened (Input d line) w party e = refl
number_happened (Closed d) w party e = fewer_askers d w.dumps.running
number_happened (Moment t) w party e = refl
number_happened (Exec d) w party e = ap number_of (done_going d w (connection d w) refl).running
number_happened (Planned d) w party e = refl
number_happened (Claim pid) w party e = refl
number_happened (Slice pid) w party e = ap number_of (sliced_going pid w).running
number_happened (Commit pid) w party e = refl
number_happened (Lost pid) w party e = refl
number_happened Idle w party e = refl
number_happened (Take d n) w party e = refl
number_happened (Cut k) w party e = cc
number_happened (Stored k) w party e = cc
number_happened (DumpFailed k) w party e = cc
number_happened Halt w party e = refl
number_happened StopSeen w party e = refl
number_happened Died w party e = refl

number_after : (es : List Entry) (w : World) → list_any (λ (e : Entry). is_dump e.event) es ≡ false → number_of (after w es).dumps.running ≡ number_of w.dumps.running
number_after [] w none = refl
number_after (e ∷ es) w none =
    number_after es (effect w e) (none_later (is_dump e.event) (list_any (λ (x : Entry). is_dump x.event) es) none)
    ∙ ap (λ (d : Dumps). number_of d.running) (effect-dumps w e) ∙ number_happened e.event w e.party (none_first (is_dump e.event) (list_any (λ (x : Entry). is_dump x.event) es) none)

number_quiet : (h k : History) → Quietly h k → number_of (now k).dumps.running ≡ number_of (now h).dumps.running
number_quiet h k q = ap (λ (w : World). number_of w.dumps.running) (now-grew h k q.entries q.grew) ∙ number_after q.entries (now h) q.none

none_runs : (o : Option (ℕ × List ℕ)) → number_of o ≡ None → o ≡ None
none_runs None e = refl
none_runs (Some r) e = cc

-- none runs
pub idle_quiet : (h k : History) → Quietly h k → (now h).dumps.running ≡ None → (now k).dumps.running ≡ None
idle_quiet h k q none = none_runs (now k).dumps.running (number_quiet h k q ∙ ap number_of none)

runs_by : (n : ℕ) (o : Option (ℕ × List ℕ)) → option_map_or (λ r. r.0 == n) o false ≡ option_map_or (λ i. i == n) (number_of o) false
runs_by n None = refl
runs_by n (Some r) = refl

-- or this one
pub runs_quiet : (h k : History) (n : ℕ) → Quietly h k → runs_dump n (now h).dumps ≡ true → runs_dump n (now k).dumps ≡ true
runs_quiet h k n q runs =
    runs_by n (now k).dumps.running ∙ ap (λ o. option_map_or (λ i. i == n) o false) (number_quiet h k q) ∙ sym (runs_by n (now h).dumps.running) ∙ runs
