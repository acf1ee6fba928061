-- How links in memory play their script.
use Rattle.std.specs.Prelude.{◌≡◌, ℕ, ◌+◌, ◌-◌, ◌^◌, min, Bool, true, false, ◌||◌, MatchBool, ◌==◌, nat_le, if◌then◌else◌, List, [], ◌∷◌, length, take, drop, Option, Some, None}
use Rattle.muck_io.specs.Faults.{one_more}
use Rattle.muck_links.specs.Sessions.{Session, LinksTold, accepted, is_used, on_session, with_read, with_written, with_end, with_fault}
use Rattle.muck_links.specs.declared.links.Listened.{Listened}
use Rattle.muck_links.specs.declared.links.Accepted.{Accepted}
use Rattle.muck_links.specs.declared.links.LinkRead.{LinkRead}
use Rattle.muck_links.specs.declared.links.LinkWrite.{LinkWrite}
use Rattle.muck_links.specs.declared.links.Listened.TheVariants as listened
use Rattle.muck_links.specs.declared.links.Accepted.TheVariants as came
use Rattle.muck_links.specs.declared.links.LinkRead.TheVariants as got
use Rattle.muck_links.specs.declared.links.LinkWrite.TheVariants as put
use Rattle.muck_links.specs.declared.script.LinkStep.{LinkStep}
use Rattle.muck_links.specs.declared.script.LinkWhat.{LinkWhat}
use Rattle.muck_links.specs.declared.script.LinkWhat.TheVariants as what
use Rattle.muck_links.specs.declared.script.Coming.{Coming}
use Rattle.muck_links.specs.declared.script.Coming.TheVariants as coming
use Rattle.muck_links.specs.declared.script.Reading.{Reading}
use Rattle.muck_links.specs.declared.script.Reading.TheVariants as reading

-- The steps that are left, how many bytes of the first one were read, how many bytes were written to all links together, the count
-- of faults in listening, and what the links tell.
pub record Script : Type 0 where
  pub steps : List LinkStep
  pub taken : ℕ
  pub sent : ℕ
  pub listening : ℕ
  pub told : LinksTold

-- before the first step
abbrev pub begun : List LinkStep → Script
begun steps = record { steps = steps; taken = 0; sent = 0; listening = 0; told = record { sessions = []; ports = []; over = false } }

abbrev pub first_due : ℕ → List LinkStep → Option LinkWhat
first_due sent [] = None
first_due sent (step ∷ steps) = if nat_le step.after sent then Some step.what else None

-- the first step, once enough was written
abbrev pub due : Script → Option LinkWhat
due s = first_due s.sent s.steps

-- the first step was taken
abbrev pub stepped : Script → Script
stepped s = record s { steps = drop 1 s.steps; taken = 0 }

abbrev pub on_link : ℕ → (Session → Session) → Script → Script
on_link d change s = record s { told = on_session d change s.told }

-- ---- listening

-- one fault more in listening, and the step was taken
abbrev pub listen_broke : Script → Script
listen_broke s = record (stepped s) { listening = one_more s.listening }

abbrev pub asked_for : ℕ → Script → Script
asked_for port s = record s { told = record s.told { ports = port ∷ s.told.ports } }

abbrev pub fails_listening : Option LinkWhat → Bool
fails_listening (Some what.FailListen) = true
fails_listening step = false

abbrev pub listen_played : ℕ → Script → Listened × Script
listen_played port s = if fails_listening (due s) then (listened.Fault, listen_broke (asked_for port s)) else (listened.Ready, asked_for port s)

-- the answer of the script; want of memory leaves all as it was
abbrev pub ListenPlays : ℕ → Script → Script → Listened → Type 0
ListenPlays port old new listened.NoMemory = new ≡ old
ListenPlays port old new answer = (answer, new) ≡ listen_played port old

-- ---- acceptance

-- what a step has for who waits for links
abbrev pub coming_by : Option LinkWhat → Coming
coming_by (Some (what.Accept d)) = coming.Link d
coming_by (Some what.Ended) = coming.Over
coming_by (Some what.FailAccept) = coming.Failure
coming_by step = coming.Nothing

abbrev pub all_came : Script → Script
all_came s = record s { told = record s.told { over = true } }

abbrev pub took_in : ℕ → Script → Script
took_in d s = record s { told = record s.told { sessions = accepted d ∷ s.told.sessions } }

-- a number in use, or from 2^31 on, comes not yet
abbrev pub accept_coming : Coming → Script → Accepted × Script
accept_coming coming.Nothing s = (came.NotYet, s)
accept_coming (coming.Link d) s = if nat_le (2 ^ 31) d || is_used d s.told.sessions then (came.NotYet, s) else (came.Got d, stepped (took_in d s))
accept_coming coming.Over s = (came.Ended, stepped (all_came s))
accept_coming coming.Failure s = (came.Fault, listen_broke s)

-- the same where memory may be wanted
abbrev pub TakesIn : ℕ → Script → Script → Accepted → Type 0
TakesIn d old new came.NoMemory = new ≡ old
TakesIn d old new answer = (answer, new) ≡ accept_coming (coming.Link d) old

abbrev pub accept_played : Script → Accepted × Script
accept_played s = if s.told.over then (came.Ended, s) else accept_coming (coming_by (due s)) s

-- the answer of the script; want of memory leaves all as it was
abbrev pub AcceptPlays : Script → Script → Accepted → Type 0
AcceptPlays old new came.NoMemory = new ≡ old
AcceptPlays old new answer = (answer, new) ≡ accept_played old

-- ---- reading

-- what a step has for who reads the link d
abbrev pub reading_by : ℕ → Option LinkWhat → Reading
reading_by d (Some (what.Bytes e bytes)) = if e == d then reading.Bytes else reading.Nothing
reading_by d (Some (what.End e)) = if e == d then reading.End else reading.Nothing
reading_by d (Some (what.FailRead e)) = if e == d then reading.Failure else reading.Nothing
reading_by d step = reading.Nothing

abbrev pub bytes_of : Option LinkWhat → List ℕ
bytes_of (Some (what.Bytes e bytes)) = bytes
bytes_of step = []

-- how many bytes of the first step a read takes, with room for so many
abbrev pub to_read : ℕ → List ℕ → ℕ → ℕ
to_read taken bytes room = min (length bytes - taken) room

-- so many bytes more of the first step were read; it is taken with its last one
abbrev pub went_on : ℕ → List ℕ → Script → Script
went_on n bytes s = if nat_le (length bytes) (s.taken + n) then stepped s else record s { taken = s.taken + n }

-- where bytes come to the link: as many as fit stand in the front of the buffer. Where memory for them is refused, none was read.
abbrev pub BytesRead : ℕ → List ℕ → ℕ → Script → Script → List ℕ → LinkRead → Type 0
BytesRead d bytes room old new buf (got.Got n) = (n ≡ to_read old.taken bytes room) × (take n buf ≡ take n (drop old.taken bytes)) × (new ≡ went_on n bytes (on_link d (with_read (take n buf)) old))
BytesRead d bytes room old new buf got.Fault = new ≡ on_link d with_fault old
BytesRead d bytes room old new buf answer = ⊥

-- a read of the link d with room for so many bytes
abbrev pub ReadAs : ℕ → Reading → ℕ → Script → Script → List ℕ → LinkRead → Type 0
ReadAs d reading.Nothing room old new buf answer = (answer ≡ got.NotYet) × (new ≡ old)
ReadAs d reading.Bytes room old new buf answer = BytesRead d (bytes_of (due old)) room old new buf answer
ReadAs d reading.End room old new buf answer = (answer ≡ got.End) × (new ≡ stepped (on_link d with_end old))
ReadAs d reading.Failure room old new buf answer = (answer ≡ got.Fault) × (new ≡ stepped (on_link d with_fault old))

abbrev pub ReadPlays : ℕ → ℕ → Script → Script → List ℕ → LinkRead → Type 0
ReadPlays d room old new buf answer = ReadAs d (reading_by d (due old)) room old new buf answer

-- ---- writing

abbrev pub fails_writing : ℕ → Option LinkWhat → Bool
fails_writing d (Some (what.FailWrite e)) = e == d
fails_writing d step = false

-- so many bytes more were written, to all links together
abbrev pub with_sent : ℕ → Script → Script
with_sent n s = record s { sent = min (s.sent + n) (2 ^ 64 - 1) }

-- all bytes are written. Where memory for them is refused, none was.
abbrev pub Writes : ℕ → List ℕ → Script → Script → LinkWrite → Type 0
Writes d bytes old new (put.Put n) = (n ≡ length bytes) × (new ≡ with_sent n (on_link d (with_written bytes) old))
Writes d bytes old new put.Fault = new ≡ on_link d with_fault old
Writes d bytes old new answer = ⊥

-- a write to the link d
abbrev pub WritePlays : ℕ → List ℕ → Script → Script → LinkWrite → Type 0
WritePlays d bytes old new answer = MatchBool (fails_writing d (due old)) ((answer ≡ put.Fault) × (new ≡ stepped (on_link d with_fault old))) (Writes d bytes old new answer)
