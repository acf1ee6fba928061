-- The account of one link: what it carried against what the history says of its connection.
use Rattle.std.specs.Prelude.{◌≡◌, ℕ, true, false, ◌+◌, ◌<◌, ◌≤◌, ◌⊎◌, not, ◌&&◌, List, [], length, Option, Some, None, is_none}
use Rattle.turn_lock.specs.Histories.{StartsWith}
use Rattle.muck_links.specs.Lines.{lines}
use Rattle.muck_links.specs.Sessions.{Session}
use Rattle.muck_model.specs.declared.event.Event.TheVariants.{Input}
use Rattle.muck_queue.specs.Queues.{has_process_tied}
use Rattle.spec_live.specs.Connections.{is_ready}
use Rattle.spec_events.specs.World.{World, queue_of, is_leaving}
use Rattle.spec_events.specs.Steps.{passes, is_lawful}
use Rattle.spec_events.specs.Histories.{by_porter}
use Rattle.spec_talks.specs.Talks.{Talk}
use Rattle.spec_serve.specs.Marks.{LinksNote, noted}

-- Nothing is left to do for the connection in this world: no line waits that may still be done, its queue is empty, and all
-- that was taken was written; or a write was refused after the end, or after the note that is made once the world is stopping.
pub data WorkedOff (counted : LinksNote) (w : World) (t : Talk) (s : Session) : Type 0 where
  done : (passes is_ready t.number w && not w.stopping) ≡ false → queue_of t.number w ≡ [] → s.written ≡ t.sent → WorkedOff counted w t s
  refused : (n : ℕ) → s.ended ≡ Some n → n < s.refused → WorkedOff counted w t s
  stalled : w.stopping ≡ true → (n : ℕ) → noted t.number counted ≡ Some n → n < s.refused → WorkedOff counted w t s

-- every whole line that was read was entered, or no line may be entered in this world
abbrev pub HeardAll : World → Talk → Session → Type 0
HeardAll w t s = (t.entered ≡ lines s.read) ⊎ ((line : List ℕ) → is_lawful w (by_porter (Input t.number line)) ≡ false)

-- Why a connection is closed in this world: its link failed; it was leaving and all was written; its link ended, where a process
-- is tied to it, or once it is worked off; or the world is stopping.
pub data Cause (counted : LinksNote) (w : World) (t : Talk) (s : Session) : Type 0 where
  faulted : 0 < s.faults → Cause counted w t s
  left : is_leaving t.number w ≡ true → queue_of t.number w ≡ [] → s.written ≡ t.sent → Cause counted w t s
  tied : (n : ℕ) → s.ended ≡ Some n → HeardAll w t s → has_process_tied t.number w.queue ≡ true → Cause counted w t s
  ended : (n : ℕ) → s.ended ≡ Some n → HeardAll w t s → WorkedOff counted w t s → Cause counted w t s
  stopped : w.stopping ≡ true → WorkedOff counted w t s → Cause counted w t s

abbrev pub ClosedWell : LinksNote → Option World → Talk → Session → Type 0
ClosedWell counted None t s = Unit {0}
ClosedWell counted (Some w) t s = Cause counted w t s

-- What is promised of an acceptance and of the connection that it became: the lines that were entered are a front of those of
-- the bytes read; the bytes written are a front of those taken, and lack at most as many as were taken last; where it was
-- closed, it was so for a cause; and its link is in use just as long as it isn't closed.
pub record Agrees (counted : LinksNote) (t : Talk) (s : Session) : Type 0 where
  pub number : t.number ≡ s.number
  pub lines : StartsWith (lines s.read) t.entered
  pub bytes : StartsWith t.sent s.written
  pub lack : length t.sent ≤ length s.written + t.last
  pub closing : ClosedWell counted t.closed t s
  pub in_use : s.in_use ≡ is_none t.closed
