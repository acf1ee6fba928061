-- What the parts of a round leave.
use Rattle.std.specs.Prelude.{◌≡◌, ℕ, Bool, true, false, ◌≤◌, ◌<◌, ◌+◌, ◌^◌, List, length, slice_set, is_some, Option, Some, None}
use mathlib.Core.Option.{some}
use lib.ListN.{get_elem?}
use Rattle.muck_links.specs.Sessions.{LinksTold, on_session, shut}
use Rattle.spec_events.specs.Logged.{events_of}
use Rattle.spec_events.specs.Own.{IsPartyOver}
use Rattle.spec_serve.specs.Marks.{LinksNote}
use Rattle.spec_serve.specs.Promises.{Tally}
use Rattle.spec_serve.specs.inner.Keeping.{Peer}
use Rattle.muck_peer.specs.Moves.{LinkStep}
use Rattle.muck_work.specs.inner.Seats.{Sight}
use Rattle.muck_porter.specs.declared.desk.Fault.{Fault}
use Rattle.muck_porter.specs.declared.desk.Fault.TheVariants.{NoMemory, Spent}
use Rattle.muck_porter.specs.declared.rounds.Round.{Round}
use Rattle.muck_porter.specs.declared.rounds.Round.TheVariants.{Busy, Idle, Left}
use Rattle.muck_porter.specs.inner.Kept.{BooksAt, KeptBy, Stopped}

-- the porter ends early: only where all turns were had; or where memory was wanted, and then its own entries are over
abbrev pub EndsEarly : Fault → Sight → Type 0
EndsEarly Spent v = 2 ^ 62 ≤ length v.seen
EndsEarly NoMemory v = IsPartyOver 0 (events_of v.own)

-- fewer links are left behind the place
abbrev pub Nearer : Option ℕ → ℕ → List Peer → List Peer → Type 0
Nearer (Some n) from peers peers' = length peers' + from < length peers + n
Nearer None from peers peers' = Unit {0}

-- the link at this place was written to
abbrev pub WroteAt : ℕ → Bool → LinksTold → LinksTold → List Peer → List Peer → Type 0
WroteAt i noted k k' peers peers' = (p : Peer) → get_elem? peers i ≡ some p
    → (p' : Peer) × (peers' ≡ slice_set peers i p') × ((counted : LinksNote) → is_some counted ≡ noted → LinkStep counted p p' k k')

-- the link at this place was closed
abbrev pub ClosedAt : ℕ → LinksTold → LinksTold → List Peer → Type 0
ClosedAt i k k' peers = (p : Peer) → get_elem? peers i ≡ some p → k' ≡ on_session p.number shut k

-- Where the porter has left, what is promised stands, and each connection that is open is worked off.
abbrev pub HasLeft : Sight → Sight → Tally → Tally → List Peer → Type 0
HasLeft v v' k k' peers = (b : Tally) (coming : Option ℕ) → BooksAt b v k peers coming → KeptBy b v' k' × Stopped v' k'

abbrev pub is_left : Round → Bool
is_left Left = true
is_left Busy = false
is_left Idle = false
