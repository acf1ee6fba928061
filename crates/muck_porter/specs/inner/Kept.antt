-- What the porter keeps of all links over what its seat has seen, and what of it stands when it returns.
use Rattle.std.specs.Prelude.{◌≡◌, ℕ, Bool, true, ◌≤◌, List, [], ◌∷◌, ◌++◌, is_some, Option, Some}
use Rattle.turn_lock.specs.Histories.{StartsWith, own_of}
use Rattle.muck_links.specs.Sessions.{LinksTold}
use Rattle.muck_model.specs.declared.note.Note.{Note}
use Rattle.muck_model.specs.declared.event.Event.TheVariants.{StopSeen}
use Rattle.spec_events.specs.declared.logged.Logged.{Logged}
use Rattle.spec_events.specs.World.{World}
use Rattle.spec_events.specs.Histories.{after, by_porter}
use Rattle.spec_events.specs.Logged.{logged_by, entries_of, events_of}
use Rattle.spec_events.specs.Own.{Stage, stage_of, IsWellFormed}
use Rattle.spec_talks.specs.Talks.{talks}
use Rattle.spec_serve.specs.Promises.{Tally, PromisedOf, OpenWorkedOff}
use Rattle.spec_serve.specs.inner.Keeping.{Peer}
use Rattle.spec_serve.specs.inner.Books.{BooksOf}
use Rattle.muck_work.specs.inner.Beginnings.{begun}
use Rattle.muck_work.specs.inner.Seats.{Sight, Chair, Rests, Left}
use Rattle.muck_porter.specs.inner.Notes.{note_in}

abbrev pub tally : LinksTold → ℕ → Tally
tally told listening = record { told = told; listening = listening }

-- what the links tell, and what the clock has to answer
pub record Account : Type 0 where
  pub links : Tally
  pub answers : Option (List ℕ)

abbrev pub account : LinksTold → ℕ → Option (List ℕ) → Account
account told listening answers = record { links = tally told listening; answers = answers }

-- The books of all links, over what the seat has seen of a history that begins in this world, in which nobody is connected. The note
-- of the links is the seat's own.
pub record BooksIn (b : Tally) (v : Sight) (k : Tally) (peers : List Peer) (coming : Option ℕ) (w : World) : Type 0 where
  pub nobody : w.live.board.connections ≡ []
  pub later : b.listening ≤ k.listening
  pub books : BooksOf (note_in v.own) b w (entries_of v.seen) k peers coming

-- in the world with which the seat began
abbrev pub BooksAt : Tally → Sight → Tally → List Peer → Option ℕ → Type 0
BooksAt b v k peers coming = (w : World) (mounting : Note) → v.root ≡ begun w mounting ∷ [] → BooksIn b v k peers coming w

-- what is promised of all links, of these items
abbrev pub PromisedIn : Tally → Sight → List Logged → Tally → Type 0
PromisedIn b v front k = (w : World) (mounting : Note) → v.root ≡ begun w mounting ∷ [] → PromisedOf (note_in v.own) b w (entries_of front) k

-- What stands when the porter returns: of some front of what its seat has seen, which has all its own entries, all is promised.
pub record KeptBy (b : Tally) (v : Sight) (k : Tally) : Type 0 where
  pub front : List Logged
  pub seen : StartsWith v.seen front
  pub own : v.own ≡ own_of logged_by 0 front
  pub promised : PromisedIn b v front k

-- What stands where it has seen the stop: its last entry, which is the last one that it has seen, says so. In the world in which
-- that was entered, which was stopping, each connection that is open is worked off.
pub record Stopped (v : Sight) (k : Tally) : Type 0 where
  pub before : List Logged
  pub last : Logged
  pub entry : last.entry ≡ by_porter StopSeen
  pub seen : v.seen ≡ before ++ last ∷ []
  pub own : v.own ≡ own_of logged_by 0 v.seen
  pub stopping : (w : World) (mounting : Note) → v.root ≡ begun w mounting ∷ [] → (after w (entries_of before)).stopping ≡ true
  pub worked : (w : World) (mounting : Note) → v.root ≡ begun w mounting ∷ []
      → OpenWorkedOff (note_in v.own) (after w (entries_of before)) (talks w (entries_of v.seen)) k

-- its own last entry says that it has seen the stop
abbrev pub EndsWithStop : List Logged → Type 0
EndsWithStop own = (front : List Logged) × (last : Logged) × (own ≡ front ++ last ∷ []) × (last.entry ≡ by_porter StopSeen)

-- What the porter's own entries leave open.

abbrev pub IsAt : Stage → List Logged → Type 0
IsAt stage own = stage_of 0 (events_of own) ≡ Some stage

-- nothing binds it: its last entry isn't a claim, nor the stop
pub data IsFree (own : List Logged) : Type 0 where
  unbound : IsAt Stage.unbound own → IsFree own
  timed : IsAt Stage.timed own → IsFree own

-- A seat of the porter at rest, and whether the note of the links was made.
pub record Resting (noted : Bool) (me : Chair) : Type 0 where
  pub rests : Rests 0 me
  pub known : noted ≡ is_some (note_in me.0.own)

-- where nothing binds it
pub record Ready (noted : Bool) (me : Chair) : Type 0 where
  pub resting : Resting noted me
  pub free : IsFree me.0.own

-- at once behind a moment
pub record ReadyTimed (noted : Bool) (me : Chair) : Type 0 where
  pub resting : Resting noted me
  pub timed : IsAt Stage.timed me.0.own

-- what stands of its seat at any return
pub record Over (me : Chair) : Type 0 where
  pub left : Left 0 me
  pub formed : IsWellFormed 0 (events_of me.0.own)
