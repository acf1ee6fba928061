-- What links tell: a session for each acceptance, the latest first.
use Rattle.std.specs.Prelude.{◌≡◌, ℕ, Bool, true, false, ◌+◌, List, [], ◌∷◌, ◌++◌, take, Option, Some, None, ◌==◌}
use Rattle.muck_io.specs.Faults.{one_more}
use Rattle.muck_links.specs.Keyed.{altered, latest}
use Rattle.muck_links.specs.declared.links.Listened.{Listened}
use Rattle.muck_links.specs.declared.links.Accepted.{Accepted}
use Rattle.muck_links.specs.declared.links.LinkRead.{LinkRead}
use Rattle.muck_links.specs.declared.links.LinkWrite.{LinkWrite}
use Rattle.muck_links.specs.declared.links.Listened.TheVariants as listened
use Rattle.muck_links.specs.declared.links.Accepted.TheVariants as came
use Rattle.muck_links.specs.declared.links.LinkRead.TheVariants as got
use Rattle.muck_links.specs.declared.links.LinkWrite.TheVariants as put

-- One acceptance: the number of the link, the bytes that were read and written, the count of refused writes when a read first
-- answered the end, the counts of faults and of refused writes, and whether the link is still open.
pub record Session : Type 0 where
  pub number : ℕ
  pub read : List ℕ
  pub written : List ℕ
  pub ended : Option ℕ
  pub faults : ℕ
  pub refused : ℕ
  pub in_use : Bool

-- all acceptances, the ports that were listened on (the latest first), and whether no link is to come any more
pub record LinksTold : Type 0 where
  pub sessions : List Session
  pub ports : List ℕ
  pub over : Bool

abbrev pub session_number : Session → ℕ
session_number s = s.number

abbrev pub has_number : ℕ → Session → Bool
has_number d s = s.number == d

abbrev pub accepted : ℕ → Session
accepted d = record { number = d; read = []; written = []; ended = None; faults = 0; refused = 0; in_use = true }

-- ---- what befalls a session

abbrev pub first_count : Option ℕ → ℕ → Option ℕ
first_count (Some n) m = Some n
first_count None m = Some m

abbrev pub with_read : List ℕ → Session → Session
with_read bytes s = record s { read = s.read ++ bytes }

abbrev pub with_written : List ℕ → Session → Session
with_written bytes s = record s { written = s.written ++ bytes }

abbrev pub with_end : Session → Session
with_end s = record s { ended = first_count s.ended s.refused }

abbrev pub with_fault : Session → Session
with_fault s = record s { faults = one_more s.faults }

abbrev pub with_refusal : Session → Session
with_refusal s = record s { refused = s.refused + 1 }

abbrev pub shut : Session → Session
shut s = record s { in_use = false }

-- the latest session of this number is another
abbrev pub on_session : ℕ → (Session → Session) → LinksTold → LinksTold
on_session d change told = record told { sessions = altered session_number d change told.sessions }

abbrev pub is_session_open : Option Session → Bool
is_session_open (Some s) = s.in_use
is_session_open None = false

-- whether the number is in use
abbrev pub is_used : ℕ → List Session → Bool
is_used d sessions = is_session_open (latest session_number d sessions)

-- ---- what each call tells

abbrev pub ListenAs : ℕ → LinksTold → LinksTold → Listened → Type 0
ListenAs port old new listened.NoMemory = new ≡ old
ListenAs port old new answer = new ≡ record old { ports = port ∷ old.ports }

-- a link that comes has a number that isn't in use
abbrev pub AcceptAs : LinksTold → LinksTold → Accepted → Type 0
AcceptAs old new (came.Got d) = (new ≡ record old { sessions = accepted d ∷ old.sessions }) × (is_used d old.sessions ≡ false)
AcceptAs old new came.Ended = new ≡ record old { over = true }
AcceptAs old new answer = new ≡ old

abbrev pub read_change : LinkRead → List ℕ → Session → Session
read_change (got.Got n) buf s = with_read (take n buf) s
read_change got.End buf s = with_end s
read_change got.NotYet buf s = s
read_change got.Fault buf s = with_fault s

abbrev pub write_change : LinkWrite → List ℕ → Session → Session
write_change (put.Put n) bytes s = with_written (take n bytes) s
write_change put.NotYet bytes s = with_refusal s
write_change put.Fault bytes s = with_fault s
