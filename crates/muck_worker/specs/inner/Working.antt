-- What a worker comes to.
use Rattle.std.specs.Prelude.{◌≡◌, ℕ, ◌<◌, ◌≤◌, ◌^◌, List, [], ◌∷◌, ◌++◌, length}
use Rattle.turn_lock.specs.Histories.{StartsWith}
use Rattle.muck_model.specs.declared.event.Event.TheVariants.{StopSeen, Died}
use Rattle.spec_events.specs.declared.logged.Logged.{Logged}
use Rattle.spec_events.specs.Logged.{bare_item, events_of, NoNotes, NoCounts}
use Rattle.spec_events.specs.Own.{IsWellFormed, IsPartyOver}
use Rattle.muck_work.specs.inner.Seats.{Chair, Rests, Left, SameLists}
use Rattle.muck_worker.specs.declared.working.Why.{Why}
use Rattle.muck_worker.specs.declared.working.Why.TheVariants.{Fine, NoMemory, Spent}

-- the seat of a worker at rest, which has done nothing yet
pub record WorkerReady (party : ℕ) (me : Chair) : Type 0 where
  pub first : 0 < party
  pub last : party < 9
  pub rests : Rests party me
  pub fresh : me.0.own ≡ []

-- What a worker did, by its answer: its items are well formed, and have no notes; and but where all turns were had, no claim is left open, also where memory was wanted.
pub record WorkerDone (why : Why) (party : ℕ) (me me' : Chair) : Type 0 where
  pub left : Left party me'
  pub lists : SameLists me.0 me'.0
  pub seen : StartsWith me'.0.seen me.0.seen
  pub formed : IsWellFormed party (events_of me'.0.own)
  pub notes : NoNotes me'.0.own
  pub counts : NoCounts me'.0.own
  pub fine : why ≡ Fine → (front : List Logged) × (me'.0.own ≡ front ++ bare_item (record { party = party; event = StopSeen }) ∷ [])
  pub dead : why ≡ NoMemory → (front : List Logged) × (me'.0.own ≡ front ++ bare_item (record { party = party; event = Died }) ∷ [])
  pub over : ¬ (why ≡ Spent) → IsPartyOver party (events_of me'.0.own)
  pub spent : why ≡ Spent → 2 ^ 62 ≤ length me'.0.seen
