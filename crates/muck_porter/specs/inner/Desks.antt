-- A desk, for contracts: what of it they speak of, how far it may come, and what a call keeps and carries.
use Rattle.std.specs.Prelude.{◌≡◌, ℕ, ℤ, Bool, true, false, ◌≤◌, ◌⊎◌, List, [], Option, None}
use Rattle.atomic_table.specs.Seated.{TableId}
use Rattle.muck_io.specs.Faults.{Rose}
use Rattle.muck_links.specs.Sessions.{LinksTold}
use Rattle.spec_events.specs.Own.{Stage}
use Rattle.spec_serve.specs.Promises.{Tally}
use Rattle.spec_serve.specs.inner.Keeping.{Peer}
use Rattle.muck_work.specs.inner.Seats.{Chair, SameLists}
use Rattle.muck_work.specs.inner.Holds.{HasClaimed}
use Rattle.muck_porter.specs.declared.desk.Desk.{Desk}
use Rattle.muck_porter.specs.declared.desk.Fault.{Fault}
use Rattle.muck_porter.specs.inner.Kept.{tally, BooksAt, KeptBy, Stopped, EndsWithStop, IsAt, Resting, Ready, ReadyTimed, Over}
use Rattle.muck_porter.specs.inner.Moves.{number_in, IsNew}
use Rattle.muck_porter.specs.inner.Porter.{PorterReady}
use Rattle.muck_porter.specs.inner.Rounds.{EndsEarly}
use Rattle.muck_porter.specs.Times.{ByClock}

-- What of a desk its contracts speak of.
pub record Stand : Type 0 where
  -- which references it holds
  pub seat_name : ℕ
  pub links_name : ℕ
  pub clock_name : ℕ
  -- the lock, and the seat at it
  pub table : TableId
  pub seat_table : TableId
  pub seat_id : ℕ
  pub me : Chair
  -- what the links tell, and what the clock has to answer
  pub tells : Bool
  pub told : LinksTold
  pub listening : ℕ
  pub answers : Option (List ℕ)
  -- what is kept
  pub noted : Bool
  pub broke : Bool
  pub peers : List Peer
  pub coming : Option Peer

abbrev pub stand : {W L C G R : Type 0} → (L → Bool) → (L → LinksTold) → (L → ℕ) → (C → Option (List ℕ)) → Desk W L C G R → Stand
stand tells told listening answers d = record {
  seat_name = d.seat.ghost_name;
  links_name = d.links.ghost_name;
  clock_name = d.clock.ghost_name;
  table = d.turn.now.table.shared.table_id;
  seat_table = d.seat.now.table_id;
  seat_id = d.seat.now.id;
  me = d.seat.now.me;
  tells = tells d.links.now;
  told = told d.links.now;
  listening = listening d.links.now;
  answers = answers d.clock.now;
  noted = d.noted;
  broke = d.broke;
  peers = d.peers.now.items;
  coming = d.coming.now;
}

-- How far it has come: nothing binds the porter, or it stands at once behind a moment, or behind a claim; it has seen the stop; or it ends early.
pub data Far : Type 0 where
  free : Far
  timed : Far
  claimed : ℤ → Far
  left : Far
  ended : Fault → Far

-- its seat is at its lock, and from the link that came nothing was read
abbrev pub Sits : Stand → Type 0
Sits d = (d.seat_table ≡ d.table) × IsNew d.coming

-- what stands of its seat there
abbrev pub Stands : Far → Stand → Type 0
Stands Far.free d = Sits d × Ready d.noted d.me
Stands Far.timed d = Sits d × ReadyTimed d.noted d.me
Stands (Far.claimed pid) d = Sits d × Resting d.noted d.me × HasClaimed 0 pid d.me.0 × IsAt (Stage.claimed pid) d.me.0.own
Stands Far.left d = EndsWithStop d.me.0.own × Over d.me
Stands (Far.ended fault) d = Over d.me × EndsEarly fault d.me.0

-- The books of all links; where listening failed its count rose since.
pub record Booked (b : Tally) (d : Stand) : Type 0 where
  pub since : b.listening ≤ d.listening
  pub broke : d.broke ≡ true → Rose b.listening d.listening
  pub books : BooksAt b d.me.0 (tally d.told d.listening) d.peers (number_in d.coming)

-- what stands of the links there
abbrev pub Books : Far → Tally → Stand → Type 0
Books Far.free b d = Booked b d
Books Far.timed b d = Booked b d
Books (Far.claimed pid) b d = Booked b d
Books Far.left b d = KeptBy b d.me.0 (tally d.told d.listening) × Stopped d.me.0 (tally d.told d.listening)
Books (Far.ended fault) b d = KeptBy b d.me.0 (tally d.told d.listening)

-- What a call keeps and carries, by how far it comes. It goes behind another such call (`proofs/Going`).
pub record Goes (far : Far) (d d' : Stand) : Type 0 where
  pub names : (d'.seat_name ≡ d.seat_name) × (d'.links_name ≡ d.links_name) × (d'.clock_name ≡ d.clock_name)
  pub own : (d'.table ≡ d.table) × (d'.seat_table ≡ d.seat_table) × (d'.seat_id ≡ d.seat_id)
  pub lists : SameLists d.me.0 d'.me.0
  -- time goes on by the clock alone, and the note of the links stands where it has to
  pub time : ByClock d.me.0 d'.me.0 d.answers d'.answers
  pub tells : d'.tells ≡ d.tells
  pub later : d.listening ≤ d'.listening
  pub broke : d'.broke ≡ true → (d.broke ≡ true) ⊎ Rose d.listening d'.listening
  -- the links are asked to listen on no port
  pub ports : d.tells ≡ true → d'.told.ports ≡ d.told.ports
  pub stands : Stands far d'
  pub books : d.tells ≡ true → (b : Tally) → Booked b d → Books far b d'

-- A desk at which nothing was done yet.
pub record Fresh (d : Stand) : Type 0 where
  pub ready : PorterReady d.me
  pub seat : d.seat_table ≡ d.table
  pub noted : d.noted ≡ false
  pub broke : d.broke ≡ false
  pub peers : d.peers ≡ []
  pub coming : d.coming ≡ None
