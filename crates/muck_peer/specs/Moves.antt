-- What a call of the links and an entry of the world do to what is kept of a link.
use Rattle.std.specs.Prelude.{◌≡◌, ◌≢◌, ℕ, max, ◌≤◌, ◌<◌, true, List, [], ◌∷◌, length, take, Option}
use Rattle.muck_io.specs.inner.Clock.{Answers}
use Rattle.muck_links.specs.Sessions.{Session, LinksTold, session_number, on_session}
use Rattle.muck_model.specs.declared.event.Event.{Event}
use Rattle.muck_model.specs.declared.event.Event.TheVariants.{Input, Closed as ClosedEvent, Moment, Take, Died}
use Rattle.spec_events.specs.World.{World, queue_of}
use Rattle.spec_events.specs.Histories.{by_porter}
use Rattle.spec_events.specs.Steps.{is_lawful}
use Rattle.spec_talks.specs.Talks.{Talk}
use Rattle.spec_serve.specs.Marks.{LinksNote}
use Rattle.spec_serve.specs.Accounts.{WorkedOff, HeardAll, Cause, Agrees}
use Rattle.spec_serve.specs.inner.Keeping.{Peer, Keeps}
use Rattle.muck_peer.specs.declared.steps.Want.{Want}
use Rattle.muck_peer.specs.declared.steps.Want.TheVariants.{Close, Bytes, Line, Time}
use Rattle.muck_peer.specs.declared.steps.Chose.{Chose}
use Rattle.muck_peer.specs.declared.steps.Chose.TheVariants.{Went, Closed, Dead}

-- A call of the links for a link: the session of its number changes, which has refused no less then, and the account of the one is that of the other.
pub record LinkStep (counted : LinksNote) (p p' : Peer) (k k' : LinksTold) : Type 0 where
  pub change : Session → Session
  pub told : k' ≡ on_session p.number change k
  pub link : (s : Session) → session_number (change s) ≡ session_number s
  pub refuses : (s : Session) → s.refused ≤ (change s).refused
  pub number : p'.number ≡ p.number
  pub keeps : (t : Talk) (s : Session) → Keeps counted p t s → Keeps counted p' t (change s)

-- a call after which nothing is kept of the link
pub record LinkLoss (counted : LinksNote) (p : Peer) (k k' : LinksTold) : Type 0 where
  pub change : Session → Session
  pub told : k' ≡ on_session p.number change k
  pub link : (s : Session) → session_number (change s) ≡ session_number s
  pub refuses : (s : Session) → s.refused ≤ (change s).refused
  pub agrees : (t : Talk) (s : Session) → Keeps counted p t s → Agrees counted t (change s)

-- what is known of a connection whose link has this account

abbrev pub IsWorkedOff : Peer → World → Type 0
IsWorkedOff p w = (counted : LinksNote) (t : Talk) (s : Session) → Keeps counted p t s → WorkedOff counted w t s

abbrev pub HasHeard : Peer → World → Type 0
HasHeard p w = (counted : LinksNote) (t : Talk) (s : Session) → Keeps counted p t s → HeardAll w t s

abbrev pub HasCause : Peer → World → Type 0
HasCause p w = (counted : LinksNote) (t : Talk) (s : Session) → Keeps counted p t s → Cause counted w t s

-- what may be done for a connection in this world, as it is wanted
abbrev pub IsWanted : Want → Peer → World → Type 0
IsWanted Close p w = (is_lawful w (by_porter (ClosedEvent p.number)) ≡ true) × HasCause p w
IsWanted (Bytes n) p w = (p.unsent ≡ []) × (0 < length (queue_of p.number w))
IsWanted Line p w = ((line : List ℕ) → is_lawful w (by_porter (Input p.number line)) ≡ true) × (p.cut.ready ≢ [])
IsWanted Time p w = Unit {0}

-- An entry for a connection that isn't its last one: a line that waits in the account, bytes of its queue where none are kept, or a moment.
pub data PeerStep (p p' : Peer) (w : World) (event : Event) : Type 0 where
  heard : (line : List ℕ) (more : List (List ℕ)) → event ≡ Input p.number line → p.cut.ready ≡ line ∷ more
      → p' ≡ record p { cut = record { ready = more; rest = p.cut.rest } } → PeerStep p p' w event
  taken : (n : ℕ) → event ≡ Take p.number n → p.unsent ≡ [] → p' ≡ record p { unsent = take n (queue_of p.number w) } → PeerStep p p' w event
  timed : (t : ℕ) → event ≡ Moment t → p' ≡ p → PeerStep p p' w event

-- what was entered for a connection, in this world
abbrev pub ChoseAs : Chose → Peer → Peer → World → Event → Type 0
ChoseAs Went p p' w event = PeerStep p p' w event
ChoseAs Closed p p' w event = (event ≡ ClosedEvent p.number) × (p' ≡ p) × HasCause p w
ChoseAs Dead p p' w event = event ≡ Died

-- the second of a moment is the greater of the clock's answer and the second of the world
abbrev pub IsTime : Option (List ℕ) → Option (List ℕ) → World → ℕ → Type 0
IsTime before after w t = (answer : ℕ) × Answers before after answer × (t ≡ max answer w.moment)

-- the clock is asked for each moment, and for nothing else
abbrev pub Clocked : Option (List ℕ) → Option (List ℕ) → World → Event → Type 0
Clocked before after w (Moment t) = IsTime before after w t
Clocked before after w event = after ≡ before

-- an entry for which the clock isn't asked
abbrev pub IsUntimed : Event → Type 0
IsUntimed event = (w : World) (answers : Option (List ℕ)) → Clocked answers answers w event
