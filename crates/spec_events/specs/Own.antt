-- What a party's own entries look like.
use Rattle.std.specs.Prelude.{◌≡◌, ℕ, ℤ, Bool, true, false, ◌==◌, nat_lt, if◌then◌else◌, List, [], ◌∷◌, Option, Some, None, is_some}
use Rattle.std.specs.Option.{option_and_then, option_map_or}
use Rattle.std.specs.Ordering.{int_eq}
use Rattle.muck_model.specs.declared.event.Event.{Event}
use Rattle.muck_model.specs.declared.event.Event.TheVariants.{Opened, Input, Closed, Moment, Exec, Claim, Slice, Lost, Idle, Take, Cut, Stored, DumpFailed, Halt, StopSeen, Died}

-- What a party did last, as far as it matters for what may follow: nothing that binds it; it entered a moment; it has claimed this
-- process; its dump of this number runs; it has seen the stop; it has made the last dump; memory was wanted.
pub data Stage : Type 0 where
  unbound : Stage
  timed : Stage
  claimed : ℤ → Stage
  dumping : ℕ → Stage
  stopped : Stage
  finished : Stage
  ended : Stage

-- The porter. It idles at once behind a moment alone, and behind the stop it makes the last dump and nothing else.
abbrev pub porter_may : Event → Option Stage
porter_may (Opened d) = Some Stage.unbound
porter_may (Input d line) = Some Stage.unbound
porter_may (Closed d) = Some Stage.unbound
porter_may (Moment t) = Some Stage.timed
porter_may (Take d n) = Some Stage.unbound
porter_may (Exec d) = Some Stage.unbound
porter_may (Claim pid) = Some (Stage.claimed pid)
porter_may Halt = Some Stage.unbound
porter_may StopSeen = Some Stage.stopped
porter_may event = None

abbrev pub timed_may : Event → Option Stage
timed_may Idle = Some Stage.unbound
timed_may event = porter_may event

-- a worker
abbrev pub worker_may : Event → Option Stage
worker_may (Exec d) = Some Stage.unbound
worker_may (Claim pid) = Some (Stage.claimed pid)
worker_may Idle = Some Stage.unbound
worker_may StopSeen = Some Stage.stopped
worker_may event = None

-- the dumper
abbrev pub dumper_may : Event → Option Stage
dumper_may (Cut k) = Some (Stage.dumping k)
dumper_may Idle = Some Stage.unbound
dumper_may StopSeen = Some Stage.stopped
dumper_may event = None

-- what was claimed is sliced at once, or it is learned that it ended
abbrev pub claim_may : ℤ → Event → Option Stage
claim_may pid (Slice n) = if int_eq n pid then Some Stage.unbound else None
claim_may pid (Lost n) = if int_eq n pid then Some Stage.unbound else None
claim_may pid event = None

-- a dump that began is stored at once, or has failed
abbrev pub dump_may : ℕ → Stage → Event → Option Stage
dump_may k after (Stored n) = if n == k then Some after else None
dump_may k after (DumpFailed n) = if n == k then Some after else None
dump_may k after event = None

abbrev pub last_may : Event → Option Stage
last_may (Cut k) = Some (Stage.dumping k)
last_may event = None

-- by the parties' numbers, and Died beside
abbrev pub porter_next : Stage → Event → Option Stage
porter_next Stage.unbound event = porter_may event
porter_next Stage.timed event = timed_may event
porter_next (Stage.claimed pid) event = claim_may pid event
porter_next (Stage.dumping k) event = dump_may k Stage.finished event
porter_next Stage.stopped event = last_may event
porter_next Stage.finished event = None
porter_next Stage.ended event = None

abbrev pub worker_next : Stage → Event → Option Stage
worker_next Stage.unbound event = worker_may event
worker_next (Stage.claimed pid) event = claim_may pid event
worker_next stage event = None

abbrev pub dumper_next : Stage → Event → Option Stage
dumper_next Stage.unbound event = dumper_may event
dumper_next (Stage.dumping k) event = dump_may k Stage.unbound event
dumper_next stage event = None

-- the porter is 0, workers are 1 to 8, the dumper is 9
abbrev pub party_next : ℕ → Stage → Event → Option Stage
party_next party stage event = if party == 0 then porter_next stage event else if nat_lt party 9 then worker_next stage event else if party == 9 then dumper_next stage event else None

-- memory may be wanted anywhere, and nothing follows then
abbrev pub died_next : Stage → Option Stage
died_next Stage.ended = None
died_next stage = Some Stage.ended

-- what a party did last where it does this next, if it may
abbrev pub next_stage : ℕ → Stage → Event → Option Stage
next_stage party stage Died = died_next stage
next_stage party stage event = party_next party stage event

abbrev pub stage_from : ℕ → Option Stage → List Event → Option Stage
stage_from party stage [] = stage
stage_from party stage (event ∷ events) = stage_from party (option_and_then (λ s. next_stage party s event) stage) events

-- what a party did last that has done these, if it may
unfoldable pub stage_of : ℕ → List Event → Option Stage
stage_of party events = stage_from party (Some Stage.unbound) events

-- A party's own entries have these events, as they may.
abbrev pub IsWellFormed : ℕ → List Event → Type 0
IsWellFormed party events = is_some (stage_of party events) ≡ true

-- where nothing may follow but Died, or the last dump of the porter: it has seen the stop, that dump is made, or memory was wanted
abbrev pub is_last : Stage → Bool
is_last Stage.stopped = true
is_last Stage.finished = true
is_last Stage.ended = true
is_last Stage.unbound = false
is_last Stage.timed = false
is_last (Stage.claimed pid) = false
is_last (Stage.dumping k) = false

-- what a party has done leaves nothing open: the last of it is StopSeen, what became of the last dump, or Died
abbrev pub is_over : ℕ → List Event → Bool
is_over party events = option_map_or is_last (stage_of party events) false

-- A party that has returned did these, as it may: no claim is left that isn't sliced, and no dump that is neither stored nor failed.
abbrev pub IsPartyOver : ℕ → List Event → Type 0
IsPartyOver party events = is_over party events ≡ true
