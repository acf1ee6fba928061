-- How the books go over from step to step.
use Rattle.std.specs.Prelude.{◌≡◌, ℕ, Bool, true, ◌⊎◌, List, [], slice_set, is_some, Option, Some, None}
use mathlib.Core.Option.{some}
use lib.ListN.{get_elem?}
use Rattle.muck_io.specs.Faults.{Rose}
use Rattle.muck_links.specs.Sessions.{LinksTold}
use Rattle.spec_serve.specs.Promises.{Tally}
use Rattle.spec_serve.specs.inner.Keeping.{Peer, new_peer}
use Rattle.muck_work.specs.inner.Seats.{Sight}
use Rattle.muck_work.specs.inner.Holds.{HasClaimed}
use Rattle.muck_porter.specs.declared.deeds.Deed.{Deed}
use Rattle.muck_porter.specs.declared.deeds.Deed.TheVariants.{Slice}
use Rattle.muck_porter.specs.inner.Notes.{note_in}
use Rattle.muck_porter.specs.inner.Kept.{tally, BooksAt, PromisedIn, KeptBy}

-- books go over to books
abbrev pub Carries : Sight → Sight → Tally → Tally → List Peer → List Peer → Option ℕ → Option ℕ → Type 0
Carries v v' k k' peers peers' coming coming' = (b : Tally) → BooksAt b v k peers coming → BooksAt b v' k' peers' coming'

-- where the link that comes stays the same
abbrev pub CarriesOn : Sight → Sight → Tally → Tally → List Peer → List Peer → Type 0
CarriesOn v v' k k' peers peers' = (coming : Option ℕ) → Carries v v' k k' peers peers' coming coming

-- books go over to what is promised at the end
abbrev pub Ends : Sight → Sight → Tally → Tally → List Peer → Option ℕ → Type 0
Ends v v' k k' peers coming = (b : Tally) → BooksAt b v k peers coming → KeptBy b v' k'

-- Calls of the links, whatever the seat has seen, which knows whether the note of the links was made.

-- one link of the books is another
abbrev pub TendsPeer : Bool → LinksTold → LinksTold → Peer → Peer → Type 0
TendsPeer noted k k' p p' = (v : Sight) (b : Tally) (peers : List Peer) (coming : Option ℕ) (i n : ℕ) → is_some (note_in v.own) ≡ noted → get_elem? peers i ≡ some p
    → BooksAt b v (tally k n) peers coming → BooksAt b v (tally k' n) (slice_set peers i p') coming

-- bytes were read and lost
abbrev pub LosesPeer : Bool → LinksTold → LinksTold → Peer → Type 0
LosesPeer noted k k' p = (v : Sight) (b : Tally) (peers : List Peer) (coming : Option ℕ) (i n : ℕ) → is_some (note_in v.own) ≡ noted → get_elem? peers i ≡ some p
    → BooksAt b v (tally k n) peers coming → PromisedIn b v v.seen (tally k' n)

abbrev pub Tends : Bool → LinksTold → LinksTold → List Peer → List Peer → Type 0
Tends noted k k' peers peers' = (v : Sight) (b : Tally) (coming : Option ℕ) (n : ℕ) → is_some (note_in v.own) ≡ noted
    → BooksAt b v (tally k n) peers coming → BooksAt b v (tally k' n) peers' coming

abbrev pub Loses : Bool → LinksTold → LinksTold → List Peer → Type 0
Loses noted k k' peers = (v : Sight) (b : Tally) (coming : Option ℕ) (n : ℕ) → is_some (note_in v.own) ≡ noted
    → BooksAt b v (tally k n) peers coming → PromisedIn b v v.seen (tally k' n)

-- a last entry, by which nothing changes for links
abbrev pub LastEntry : Tally → Tally → Sight → Sight → Type 0
LastEntry k k' v v' = (b : Tally) → PromisedIn b v v.seen k → KeptBy b v' k'

abbrev pub ClaimAt : Deed → Sight → Type 0
ClaimAt (Slice pid) v = HasClaimed 0 pid v
ClaimAt deed v = Unit {0}

-- A cause to stop the run: listening failed, or no link will come any more and none is open.
abbrev pub MayHalt : Tally → Tally → List Peer → Type 0
MayHalt b k peers = Rose b.listening k.listening ⊎ ((k.told.over ≡ true) × (peers ≡ []))

-- The link that came and isn't opened yet: nothing was read from it.

abbrev pub number_in : Option Peer → Option ℕ
number_in None = None
number_in (Some p) = Some p.number

abbrev pub IsNew : Option Peer → Type 0
IsNew None = Unit {0}
IsNew (Some p) = p ≡ new_peer p.number
