-- What the dumper comes to.
use Rattle.std.specs.Prelude.{◌≡◌, ℕ, ◌≤◌, ◌^◌, Bool, true, List, [], ◌∷◌, ◌++◌, length, None}
use Rattle.turn_lock.specs.Histories.{StartsWith, own_of}
use Rattle.muck_model.specs.declared.event.Event.{Event}
use Rattle.muck_model.specs.declared.event.Event.TheVariants.{StopSeen, Died}
use Rattle.spec_events.specs.declared.logged.Logged.{Logged}
use Rattle.spec_events.specs.World.{starting_world}
use Rattle.spec_events.specs.Histories.{History, now}
use Rattle.spec_events.specs.Logged.{logged_by, entries_of, events_of, notes_of, count_from, NoCounts}
use Rattle.spec_events.specs.Own.{IsWellFormed}
use Rattle.spec_dumps.specs.Survival.{IsSafe}
use Rattle.muck_work.specs.declared.Beginning.{Beginning}
use Rattle.muck_work.specs.inner.Seats.{Sight, Chair, AllOrderly, Rests, Left, SameLists}
use Rattle.muck_dumping.specs.inner.Dumps.{by}
use Rattle.muck_dumping.specs.declared.store.Store.{Store}
use Rattle.muck_dumping.specs.inner.Between.{IsReady, Knows}
use Rattle.muck_dumper.specs.declared.dumping.Why.{Why}
use Rattle.muck_dumper.specs.declared.dumping.Why.TheVariants.{Fine, NoMemory, Spent}

-- the history that a seat has seen: it began so, and has these items
abbrev pub history_from : List Beginning → List Logged → History
history_from [] ls = record { start = starting_world; entries = entries_of ls; notes = notes_of ls; counted = count_from 0 ls }
history_from (b ∷ bs) ls = record { start = b.world; entries = entries_of ls; notes = b.notes ++ notes_of ls; counted = count_from 0 ls }

abbrev pub history_seen : Sight → History
history_seen v = history_from v.root v.seen

-- what the seat has seen begins so, and all items of the dumper are among these
pub record IsKnown (known : List Logged) (v : Sight) : Type 0 where
  pub front : StartsWith v.seen known
  pub mine : v.own ≡ own_of logged_by 9 known
  pub orderly : AllOrderly known

-- the last item of a list is by the dumper, with this event
abbrev pub EndsWith : Event → List Logged → Type 0
EndsWith event ls = (front : List Logged) × (l : Logged) × (ls ≡ front ++ l ∷ []) × (l.entry ≡ by 9 event)

-- the seat of the dumper at rest, which has done nothing yet, where no dump runs
pub record DumperReady (me : Chair) : Type 0 where
  pub rests : Rests 9 me
  pub fresh : me.0.own ≡ []
  pub idle : (now (history_seen me.0)).dumps.running ≡ None

-- What the dumper did, by its answer: its items are well formed; and of the history as its seat knows it, with the notes that it made, it has
-- kept all that is said of dumps, and what the store knows of them. It knows which items of what it has seen were others', up to its last turn. Where it was stopped no dump runs, and
-- whoever has the world may make the last one.
pub record DumperDone {D : Type 0} (tells : Bool) (seen : D → List ℕ) (moment : D → ℕ) (images : D → ℕ → List ℕ → Type 0) (faults : D → ℕ) (why : Why) (store store' : Store) (first second first' second' : D) (me me' : Chair) : Type 0 where
  pub left : Left 9 me'
  pub lists : SameLists me.0 me'.0
  pub sight : StartsWith me'.0.seen me.0.seen
  pub formed : IsWellFormed 9 (events_of me'.0.own)
  pub counts : NoCounts me'.0.own
  pub fine : why ≡ Fine → EndsWith StopSeen me'.0.own
  pub dead : why ≡ NoMemory → EndsWith Died me'.0.own
  pub spent : why ≡ Spent → 2 ^ 62 ≤ length me'.0.seen
  pub known : List Logged
  pub knows : IsKnown known me'.0
  pub safe : (mounted : ℕ) → tells ≡ true → IsReady seen moment images faults store.log first second mounted (history_seen me.0)
      → IsSafe moment images faults first' second' (history_from me'.0.root known).start mounted (history_from me'.0.root known).entries (history_from me'.0.root known).notes
  pub ready : why ≡ Fine → (mounted : ℕ) → tells ≡ true → IsReady seen moment images faults store.log first second mounted (history_seen me.0)
      → IsReady seen moment images faults store'.log first' second' mounted (history_from me'.0.root known)
  pub stands : why ≡ Fine → Knows store' (history_from me'.0.root known)
  pub idle : why ≡ Fine → (now (history_from me'.0.root known)).dumps.running ≡ None
  pub first_later : faults first ≤ faults first'
  pub second_later : faults second ≤ faults second'
