-- What a history says of each connection: its talk. The connection that was opened last stands first.
use Rattle.std.specs.Prelude.{ℕ, Bool, false, is_none, if◌then◌else◌, ◌==◌, List, [], ◌∷◌, ◌++◌, take, slice_get, Option, Some, None}
use Rattle.std.specs.Option.{option_map_or}
use Rattle.muck_links.specs.Keyed.{altered, latest}
use Rattle.muck_model.specs.declared.event.Entry.{Entry}
use Rattle.muck_model.specs.declared.event.Event.{Event}
use Rattle.muck_model.specs.declared.event.Event.TheVariants.{Opened, Input, Closed, Take}
use Rattle.spec_events.specs.World.{World, queue_of}
use Rattle.spec_events.specs.Steps.{effect}

-- The number of the connection, the lines that came, the bytes that were taken, how many were asked for last, and, once it was
-- closed, the world in which it was.
pub record Talk : Type 0 where
  pub number : ℕ
  pub entered : List (List ℕ)
  pub sent : List ℕ
  pub last : ℕ
  pub closed : Option World

abbrev pub talk_begun : ℕ → Talk
talk_begun d = record { number = d; entered = []; sent = []; last = 0; closed = None }

abbrev pub talk_of : Talk → ℕ
talk_of t = t.number

abbrev pub line_heard : List ℕ → Talk → Talk
line_heard line t = record t { entered = t.entered ++ line ∷ [] }

abbrev pub given_out : List ℕ → ℕ → Talk → Talk
given_out bytes n t = record t { sent = t.sent ++ bytes; last = n }

abbrev pub ended_in : World → Talk → Talk
ended_in w t = record t { closed = Some w }

-- the latest talk of d is another
abbrev pub retold : ℕ → (Talk → Talk) → List Talk → List Talk
retold d change ts = altered talk_of d change ts

-- what an event adds in this world
abbrev pub talked : World → Event → List Talk → List Talk
talked w (Opened d) ts = talk_begun d ∷ ts
talked w (Input d line) ts = retold d (line_heard line) ts
talked w (Take d n) ts = retold d (given_out (take n (queue_of d w)) n) ts
talked w (Closed d) ts = retold d (ended_in w) ts
talked w event ts = ts

-- what these entries add from this world on
abbrev pub talks_on : World → List Talk → List Entry → List Talk
talks_on w ts [] = ts
talks_on w ts (e ∷ es) = talks_on (effect w e) (talked w e.event ts) es

-- the talks of a history that begins in this world
unfoldable pub talks : World → List Entry → List Talk
talks w h = talks_on w [] h

-- the talks of d, the first one first
abbrev pub talks_with : ℕ → List Talk → List Talk
talks_with d [] = []
talks_with d (t ∷ ts) = if t.number == d then talks_with d ts ++ t ∷ [] else talks_with d ts

-- The bytes that were taken for d between its opening of this place, from 0 on, and the next one.
abbrev pub bytes_sent : World → List Entry → ℕ → ℕ → List ℕ
bytes_sent w h d place = option_map_or (λ t. t.sent) (slice_get (talks_with d (talks w h)) place) []

abbrev pub is_open : Option Talk → Bool
is_open o = option_map_or (λ t. is_none t.closed) o false

-- whether the latest talk of d is open
abbrev pub is_talking : ℕ → List Talk → Bool
is_talking d ts = is_open (latest talk_of d ts)
