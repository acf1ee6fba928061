-- What is kept of a link while it is open.
use Rattle.std.specs.Prelude.{◌≡◌, ℕ, Bool, true, false, is_some, ◌<◌, ◌≤◌, List, [], ◌++◌, length, Option, Some, None}
use Rattle.muck_links.specs.Sessions.{Session}
use Rattle.muck_links.specs.inner.Cutting.{Cut, fresh, cut_lines, cut_rest}
use Rattle.spec_talks.specs.Talks.{Talk}
use Rattle.spec_serve.specs.Marks.{LinksNote, noted}

-- Of a count it is known whether it is marked, and whether it has passed the mark since.
abbrev pub Passed : Bool → Bool → Option ℕ → ℕ → Type 0
Passed false passed mark count = (mark ≡ None) × (passed ≡ false)
Passed true false mark count = (n : ℕ) × (mark ≡ Some n) × (n ≤ count)
Passed true true mark count = (n : ℕ) × (mark ≡ Some n) × (n < count)

-- What is kept of a link that is open: the lines that were cut and not entered yet with the rest, the bytes that were taken and
-- not written yet, whether it ended or failed, and whether it refused a write after its end, or after the note.
pub record Peer : Type 0 where
  pub number : ℕ
  pub cut : Cut
  pub unsent : List ℕ
  pub ended : Bool
  pub faulted : Bool
  pub refused : Bool
  pub stalled : Bool

-- The account of a link that is open: each line that was read was entered or is kept, and each byte that was taken was written
-- or is kept.
pub record Keeps (counted : LinksNote) (p : Peer) (t : Talk) (s : Session) : Type 0 where
  pub talk_number : t.number ≡ p.number
  pub link_number : s.number ≡ p.number
  pub not_closed : t.closed ≡ None
  pub in_use : s.in_use ≡ true
  pub lines : t.entered ++ p.cut.ready ≡ cut_lines fresh s.read
  pub rest : p.cut.rest ≡ cut_rest fresh s.read
  pub bytes : t.sent ≡ s.written ++ p.unsent
  pub lack : length p.unsent ≤ t.last
  pub ended : Passed p.ended p.refused s.ended s.refused
  pub stalled : Passed (is_some counted) p.stalled (noted s.number counted) s.refused
  pub faulted : p.faulted ≡ true → 0 < s.faults

abbrev pub new_peer : ℕ → Peer
new_peer d = record { number = d; cut = record { ready = []; rest = fresh }; unsent = []; ended = false; faulted = false; refused = false; stalled = false }
