-- A hold of a party: what it knows once it has the turn, and what it has to leave.
use Rattle.std.specs.Prelude.{◌≡◌, ℕ, ℤ, List, [], ◌∷◌, ◌++◌, None}
use Rattle.turn_lock.specs.Histories.{own_of}
use Rattle.turn_lock.specs.declared.view.Place.TheVariants.{Holds}
use Rattle.muck_model.specs.declared.event.Event.TheVariants.{Claim}
use Rattle.spec_events.specs.declared.logged.Logged.{Logged}
use Rattle.spec_events.specs.Histories.{History, AllLawful}
use Rattle.spec_events.specs.Logged.{logged, logged_by, IsOrderly, IsPlaced}
use Rattle.muck_machine.specs.inner.Beginnings.{beginning}
use Rattle.muck_machine.specs.inner.Seats.{Sight, Chair, OneMore, AllOrderly, Rests, Waited, SameLists}
use Rattle.muck_work.specs.inner.Jobs.{by}

-- The party has the turn: this is the history that it was given, which is what its seat has seen, and it is lawful.
pub record HasTurn (whose : ℕ) (me me' : Chair) (h : History) : Type 0 where
  pub rests : Rests whose me
  pub waited : Waited me.0 me'.0
  pub turn : (n : ℕ) × (me'.0.place ≡ Holds n)
  pub out : me'.1 ≡ (0, None) ∷ []
  pub known : me'.0.own ≡ own_of logged_by me'.0.party me'.0.seen
  pub orderly : AllOrderly me'.0.seen
  pub seen : logged h ≡ me'.0.seen
  pub root : beginning h ∷ [] ≡ me'.0.root
  pub lawful : AllLawful h.start h.entries
  pub placed : IsPlaced h

-- It has the turn still, and has made this item of what it was given.
pub record HasEntered (whose : ℕ) (me me' : Chair) (k : History) (item : Logged) : Type 0 where
  pub history : History
  pub turn : HasTurn whose me me' history
  pub one : OneMore history k item
  pub party : item.entry.party ≡ whose
  pub orderly : IsOrderly item

-- Its turn is over, and its seat rests: these items of others came since, and then this one.
pub record HasGiven (whose : ℕ) (me me' : Chair) (others : List Logged) (item : Logged) : Type 0 where
  pub rests : Rests whose me'
  pub seen : me'.0.seen ≡ (me.0.seen ++ others) ++ item ∷ []
  pub own : me'.0.own ≡ me.0.own ++ item ∷ []
  pub lists : SameLists me.0 me'.0

-- the last that a seat has seen is its party's claim of this process
abbrev pub HasClaimed : ℕ → ℤ → Sight → Type 0
HasClaimed party pid v = (front : List Logged) × (item : Logged) × (v.seen ≡ front ++ item ∷ []) × (item.entry ≡ by party (Claim pid))
