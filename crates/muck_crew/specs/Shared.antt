-- Who did what in a history that several parties share.
use Rattle.std.specs.Prelude.{◌≡◌, ◌⊎◌, ◌≤◌, ℕ, List, [], ◌∷◌, ◌++◌, map, slice_get, Some}
use Rattle.muck_model.specs.declared.event.Entry.{Entry}
use Rattle.muck_model.specs.declared.event.Event.{Event}
use Rattle.muck_model.specs.declared.event.Event.TheVariants.{StopSeen}
use Rattle.spec_events.specs.World.{World}
use Rattle.spec_events.specs.Histories.{after, by_porter}
use Rattle.spec_events.specs.Own.{IsWellFormed, IsPartyOver}
use Rattle.spec_talks.specs.Parties.{own_entries}
use Rattle.spec_talks.specs.Talks.{talks}
use Rattle.spec_serve.specs.Marks.{LinksNote}
use Rattle.spec_serve.specs.Promises.{Tally, OpenWorkedOff}

-- the porter, 0, the workers, from 1 on, and the dumper, 9
abbrev pub IsParty : ℕ → ℕ → Type 0
IsParty workers party = (party ≤ workers) ⊎ (party ≡ 9)

-- what a party did, in order
abbrev pub events_done_by : ℕ → List Entry → List Event
events_done_by party tale = map (λ (e : Entry). e.event) (own_entries party tale)

-- Each entry is of one of the parties, and what each of them did is what that party may do, in the order in which it may.
pub record IsShared (workers : ℕ) (tale : List Entry) : Type 0 where
  pub known : (i : ℕ) (e : Entry) → slice_get tale i ≡ Some e → IsParty workers e.party
  pub own : (party : ℕ) → IsParty workers party → IsWellFormed party (events_done_by party tale)

-- what a party did is over, where it did anything: no claim of it is left open, and no dump
abbrev pub IsThrough : ℕ → List Entry → Type 0
IsThrough party tale = (events_done_by party tale ≡ []) ⊎ IsPartyOver party (events_done_by party tale)

abbrev pub AllOver : ℕ → List Entry → Type 0
AllOver workers tale = (party : ℕ) → IsParty workers party → IsThrough party tale

-- what a party did ends with the stop, which it saw
abbrev pub EndsStopped : ℕ → List Entry → Type 0
EndsStopped party tale = (own : List Event) × (events_done_by party tale ≡ own ++ StopSeen ∷ [])

-- each connection that is open where the porter saw the stop is worked off there
abbrev pub LeavesWorkedOff : LinksNote → World → List Entry → Tally → Type 0
LeavesWorkedOff counted w tale now = (front : List Entry) × (rest : List Entry) × (tale ≡ front ++ by_porter StopSeen ∷ rest)
    × OpenWorkedOff counted (after w front) (talks w (front ++ by_porter StopSeen ∷ [])) now
