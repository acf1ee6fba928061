-- What is promised of all links against a whole history.
use Rattle.std.specs.Prelude.{◌≡◌, ℕ, true, ◌⊎◌, List, [], ◌∷◌, ◌++◌, if◌then◌else◌, ◌==◌, Some, None}
use mathlib.Core.Option.{some}
use lib.ListN.{get_elem?}
use Rattle.muck_io.specs.Faults.{Rose}
use Rattle.muck_links.specs.Keyed.{latest}
use Rattle.muck_links.specs.Sessions.{Session, LinksTold, session_number}
use Rattle.muck_model.specs.declared.event.Entry.{Entry}
use Rattle.spec_events.specs.World.{World, connection}
use Rattle.spec_talks.specs.Parties.{worlds_at, is_halt}
use Rattle.spec_talks.specs.Talks.{Talk, talk_of, talks}
use Rattle.spec_serve.specs.Pairs.{All2}
use Rattle.spec_serve.specs.Marks.{LinksNote, AreCountsOf}
use Rattle.spec_serve.specs.Accounts.{Agrees, WorkedOff}

-- what the links tell, with the count of faults in listening
pub record Tally : Type 0 where
  pub told : LinksTold
  pub listening : ℕ

-- A run is stopped where listening failed, or where no link will come any more and nobody is connected.
abbrev pub HaltCause : Tally → Tally → World → Type 0
HaltCause b k w = Rose b.listening k.listening ⊎ ((k.told.over ≡ true) × ((d : ℕ) → connection d w ≡ None))

abbrev pub HaltsCaused : Tally → List World → Tally → Type 0
HaltsCaused b hs k = (i : ℕ) (w : World) → get_elem? hs i ≡ some w → HaltCause b k w

-- no acceptance lacks its entry Opened but one, from which nothing was read and to which nothing was written
abbrev pub AtMostOne : List Session → Type 0
AtMostOne extra = (extra ≡ []) ⊎ ((s : Session) × (extra ≡ s ∷ []) × (s.read ≡ []) × (s.written ≡ []))

-- What is promised of all links at any time, also where memory was wanted: each acceptance of the call agrees with the opening
-- of the same place, and the note of the links has its counts of the first acceptances.
pub record Promised (counted : LinksNote) (b : Tally) (ts : List Talk) (hs : List World) (k : Tally) : Type 0 where
  pub mine : List Session
  pub extra : List Session
  pub whole : k.told.sessions ≡ extra ++ (mine ++ b.told.sessions)
  pub single : AtMostOne extra
  pub agree : All2 (Agrees counted) ts mine
  pub counts : AreCountsOf counted k.told.sessions
  pub halts : HaltsCaused b hs k

-- the same of a history that begins in a world
abbrev pub PromisedOf : LinksNote → Tally → World → List Entry → Tally → Type 0
PromisedOf counted b w h k = Promised counted b (talks w h) (worlds_at is_halt w h) k

-- the sessions of d, the first one first
abbrev pub sessions_with : ℕ → List Session → List Session
sessions_with d [] = []
sessions_with d (s ∷ ss) = if s.number == d then sessions_with d ss ++ s ∷ [] else sessions_with d ss

-- each connection that is open is worked off in this world
abbrev pub OpenWorkedOff : LinksNote → World → List Talk → Tally → Type 0
OpenWorkedOff counted w ts k = (d : ℕ) (t : Talk) → latest talk_of d ts ≡ Some t → t.closed ≡ None
    → (s : Session) × (latest session_number d k.told.sessions ≡ Some s) × WorkedOff counted w t s
