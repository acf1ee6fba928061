-- What the seat of a party knows of the history of a world that is shared, from turn to turn.
use Rattle.std.specs.Prelude.{◌≡◌, ℕ, ◌⊎◌, List, [], ◌∷◌, ◌++◌, Option}
use mathlib.Core.Option.{some}
use lib.ListN.{get_elem?}
use Rattle.atomic_table.specs.Table.{Me}
use Rattle.turn_lock.specs.Histories.{StartsWith, own_of}
use Rattle.turn_lock.specs.declared.view.View.{View}
use Rattle.turn_lock.specs.declared.view.Place.TheVariants.{Idle, Told}
use Rattle.spec_events.specs.declared.logged.Logged.{Logged}
use Rattle.spec_events.specs.Histories.{History}
use Rattle.spec_events.specs.Logged.{logged, logged_by, IsOrderly}
use Rattle.muck_machine.specs.declared.world.World.{World as State}
use Rattle.muck_machine.specs.declared.beginning.Beginning.{Beginning}
use Rattle.muck_machine.specs.inner.Beginnings.{beginning, IsBegun}

-- what a seat has seen
abbrev pub Sight : Type 0
Sight = View Logged Beginning

-- a seat as its party holds it
abbrev pub Chair : Type 0
Chair = Me (Option State) Sight

-- the one history is longer than the other by this item, and begins as it does
pub record OneMore (h k : History) (l : Logged) : Type 0 where
  pub logged : logged k ≡ logged h ++ l ∷ []
  pub beginning : beginning k ≡ beginning h

-- each item may stand in the history
abbrev pub AllOrderly : List Logged → Type 0
AllOrderly seen = (i : ℕ) (l : Logged) → get_elem? seen i ≡ some l → IsOrderly l

-- A seat of a party at rest: it carries nothing; of what it has seen, which is in order, its party's items are its own; and it knows
-- how the world began.
pub record Rests (whose : ℕ) (me : Chair) : Type 0 where
  pub free : me.1 ≡ []
  pub idle : me.0.place ≡ Idle
  pub party : me.0.party ≡ whose
  pub own : me.0.own ≡ own_of logged_by whose me.0.seen
  pub orderly : AllOrderly me.0.seen
  pub begun : IsBegun me.0.root

-- what stands of a seat when its party returns: it may be taken in
pub record Left (whose : ℕ) (me : Chair) : Type 0 where
  pub free : me.1 ≡ []
  pub over : (me.0.place ≡ Idle) ⊎ (me.0.place ≡ Told)
  pub party : me.0.party ≡ whose
  pub begun : IsBegun me.0.root

-- A seat has waited: it may have seen more, and nothing else of it changed.
abbrev pub Waited : Sight → Sight → Type 0
Waited v v' = StartsWith v'.seen v.seen × (v'.own ≡ v.own) × (v'.party ≡ v.party) × (v'.given ≡ v.given) × (v'.joined ≡ v.joined) × (v'.root ≡ v.root)

-- what no turn changes at a seat
abbrev pub SameLists : Sight → Sight → Type 0
SameLists v v' = (v'.root ≡ v.root) × (v'.given ≡ v.given) × (v'.joined ≡ v.joined)

-- One turn of a party: others' items since, and then one of its own.
pub record Turned (v v' : Sight) (l : Logged) : Type 0 where
  pub others : List Logged
  pub seen : v'.seen ≡ (v.seen ++ others) ++ l ∷ []
  pub own : v'.own ≡ v.own ++ l ∷ []
  pub lists : SameLists v v'
