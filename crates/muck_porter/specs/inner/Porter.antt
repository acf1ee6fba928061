-- What the porter is given, and what it leaves.
use Rattle.std.specs.Prelude.{◌≡◌, Bool, true, ◌≤◌, ◌^◌, ◌⊎◌, [], ◌∷◌, length}
use Rattle.muck_io.specs.Faults.{Rose}
use Rattle.muck_model.specs.declared.note.Note.{Note}
use Rattle.spec_events.specs.World.{World}
use Rattle.spec_events.specs.Logged.{events_of}
use Rattle.spec_events.specs.Own.{IsPartyOver}
use Rattle.muck_work.specs.inner.Beginnings.{begun}
use Rattle.muck_work.specs.inner.Seats.{Chair, Rests, SameLists}
use Rattle.muck_porter.specs.declared.porting.Why.{Why}
use Rattle.muck_porter.specs.declared.porting.Why.TheVariants.{Fine, ListenFault, Spent}
use Rattle.muck_porter.specs.inner.Kept.{Account, KeptBy, Stopped, EndsWithStop, Over}
use Rattle.muck_porter.specs.Times.{TimedBy}

-- The seat of party 0 at rest, which has seen nothing yet of a history that begins where nobody is connected.
pub record PorterReady (me : Chair) : Type 0 where
  pub rests : Rests 0 me
  pub seen : me.0.seen ≡ []
  pub nobody : (w : World) (mounting : Note) → me.0.root ≡ begun w mounting ∷ [] → w.live.board.connections ≡ []

-- it has seen the stop, and returned
abbrev pub HasStopped : Why → Type 0
HasStopped why = (why ≡ Fine) ⊎ (why ≡ ListenFault)

-- What stands when it returns: `b` is what the links told before and what the clock had to answer then, and `k` is both now.
pub record PorterDone (why : Why) (tells : Bool) (b k : Account) (me me' : Chair) : Type 0 where
  pub lists : SameLists me.0 me'.0
  -- its own entries are as they may be, and the seat may be taken in
  pub over : Over me'
  -- at each return what is promised of the links holds, where they tell what they carried
  pub kept : tells ≡ true → KeptBy b.links me'.0 k.links
  -- each moment is the clock's, wherever the clock tells, and the note of the links stands where it has to
  pub timed : TimedBy b.answers k.answers me'.0
  -- the porter asks the links to listen on no port
  pub ports : tells ≡ true → k.links.told.ports ≡ b.links.told.ports
  -- where it has seen the stop its last entry says so, and each connection that is open is worked off there
  pub last : HasStopped why → EndsWithStop me'.0.own
  pub stopped : HasStopped why → tells ≡ true → Stopped me'.0 k.links
  -- a fault in listening was counted
  pub fault : why ≡ ListenFault → Rose b.links.listening k.links.listening
  pub later : b.links.listening ≤ k.links.listening
  -- but where all turns were had, its own entries are over
  pub ended : ¬ (why ≡ Spent) → IsPartyOver 0 (events_of me'.0.own)
  -- all turns were had
  pub spent : why ≡ Spent → 2 ^ 62 ≤ length me'.0.seen
