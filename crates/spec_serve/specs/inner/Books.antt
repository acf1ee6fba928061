-- The books of all links: what is kept of them while they are served.
use Rattle.std.specs.Prelude.{◌≡◌, ℕ, List, [], ◌∷◌, ◌++◌, Option, Some, None}
use mathlib.Core.Option.{some}
use lib.ListN.{get_elem?}
use Rattle.muck_links.specs.Keyed.{latest}
use Rattle.muck_links.specs.Sessions.{Session, LinksTold, session_number, accepted}
use Rattle.muck_model.specs.declared.event.Entry.{Entry}
use Rattle.spec_events.specs.World.{World}
use Rattle.spec_talks.specs.Parties.{worlds_at, is_halt}
use Rattle.spec_talks.specs.Talks.{Talk, talk_of, talks}
use Rattle.spec_serve.specs.Pairs.{All2}
use Rattle.spec_serve.specs.Marks.{LinksNote, AreCountsOf}
use Rattle.spec_serve.specs.Accounts.{Agrees, WorkedOff}
use Rattle.spec_serve.specs.Promises.{Tally, HaltsCaused}
use Rattle.spec_serve.specs.inner.Keeping.{Peer, Keeps}

abbrev pub with_told : LinksTold → Tally → Tally
with_told told k = record k { told = told }

-- an acceptance that has no entry Opened yet
abbrev pub Waits : Option ℕ → List Session → Type 0
Waits None extra = extra ≡ []
Waits (Some d) extra = extra ≡ accepted d ∷ []

-- What is kept while links are open, of talks, of the worlds in which the run was stopped, and of what the links tell: b as the
-- call began, and k now. Each link that is open has its peer, and of one that came it may be that it wasn't opened yet.
pub record Books (counted : LinksNote) (b : Tally) (ts : List Talk) (hs : List World) (k : Tally) (peers : List Peer) (coming : Option ℕ) : Type 0 where
  pub mine : List Session
  pub extra : List Session
  pub whole : k.told.sessions ≡ extra ++ (mine ++ b.told.sessions)
  pub waits : Waits coming extra
  pub agree : All2 (Agrees counted) ts mine
  pub kept : (i : ℕ) (p : Peer) → get_elem? peers i ≡ some p
      → (t : Talk) × (s : Session) × (latest talk_of p.number ts ≡ Some t) × (latest session_number p.number mine ≡ Some s) × Keeps counted p t s
  pub apart : (i j : ℕ) (p q : Peer) → get_elem? peers i ≡ some p → get_elem? peers j ≡ some q → p.number ≡ q.number → i ≡ j
  pub away : (d : ℕ) → coming ≡ Some d → (i : ℕ) (p : Peer) → get_elem? peers i ≡ some p → ¬ (p.number ≡ d)
  pub known : (d : ℕ) (t : Talk) → latest talk_of d ts ≡ Some t → t.closed ≡ None → (i : ℕ) × (p : Peer) × (get_elem? peers i ≡ some p) × (p.number ≡ d)
  pub counts : AreCountsOf counted k.told.sessions
  pub halts : HaltsCaused b hs k

-- the same of a history that begins in a world
abbrev pub BooksOf : LinksNote → Tally → World → List Entry → Tally → List Peer → Option ℕ → Type 0
BooksOf counted b w h k peers coming = Books counted b (talks w h) (worlds_at is_halt w h) k peers coming

-- each link that is open is worked off in this world
abbrev pub AllWorkedOff : LinksNote → World → List Peer → Type 0
AllWorkedOff counted w peers = (i : ℕ) (p : Peer) → get_elem? peers i ≡ some p → (t : Talk) (s : Session) → Keeps counted p t s → WorkedOff counted w t s
