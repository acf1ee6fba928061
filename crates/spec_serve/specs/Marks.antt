-- Counts of refused writes that are remembered: the one at the end of a link, and those in the note of the links.
use Rattle.std.specs.Prelude.{◌≡◌, ℕ, true, false, ◌<◌, ◌≤◌, List, ◌++◌, take, slice_get, Option, Some, None}
use Rattle.std.specs.Option.{option_map, option_and_then}
use Rattle.muck_links.specs.Keyed.{latest}
use Rattle.muck_links.specs.Sessions.{Session}
use Rattle.muck_model.specs.declared.event.Entry.{Entry}
use Rattle.muck_model.specs.declared.note.Count.{Count}
use Rattle.muck_model.specs.declared.note.Counted.{Counted}
use Rattle.spec_events.specs.World.{World}
use Rattle.spec_events.specs.Histories.{after}
use Rattle.spec_talks.specs.Counts.{count_of}
use Rattle.spec_serve.specs.Pairs.{All2}

-- the counts of the note of the links, once it is made
abbrev pub LinksNote : Type 0
LinksNote = Option (List Count)

-- those of a tale
abbrev pub counts_in : Option Counted → LinksNote
counts_in counted = option_map (λ c. c.counts) counted

-- what they say of the latest link of a number
abbrev pub noted : ℕ → LinksNote → Option ℕ
noted d counted = option_and_then (λ cs. option_map (λ c. c.refused) (latest count_of d cs)) counted

-- The porter's entry has this place, on a world that is stopping, and in which memory wasn't wanted before.
pub record ActsStopping (w : World) (tale : List Entry) (place : ℕ) : Type 0 where
  pub entry : Entry
  pub here : slice_get tale place ≡ Some entry
  pub porter : entry.party ≡ 0
  pub stopping : (after w (take place tale)).stopping ≡ true
  pub alive : (after w (take place tale)).dead ≡ false

-- The note of the links of a tale that begins in this world: it is made at once before the porter's first entry on a stopping world, and there is none
-- where the porter has no such entry.
abbrev pub IsLinksNote : Option Counted → World → List Entry → Type 0
IsLinksNote None w tale = (place : ℕ) → ¬ (ActsStopping w tale place)
IsLinksNote (Some c) w tale = ActsStopping w tale c.entries × ((place : ℕ) → place < c.entries → ¬ (ActsStopping w tale place))

-- a count of this acceptance, which has refused so many writes at least
abbrev pub IsCountOf : Count → Session → Type 0
IsCountOf c s = (c.number ≡ s.number) × (c.refused ≤ s.refused)

-- The counts are those of the first so many acceptances, each at its place, and none of them is above what that acceptance has refused by now.
abbrev pub AreCountsOf : LinksNote → List Session → Type 0
AreCountsOf None sessions = Unit {0}
AreCountsOf (Some counts) sessions = (later : List Session) × (first : List Session) × (sessions ≡ later ++ first) × All2 IsCountOf counts first
