-- The note of the links is made.
use Rattle.std.proofs.Common.{true≢false, ◌≡◌, ℕ, List, ◌++◌, Bool, true, false, refl, sym, ap, ◌∙◌, arith, Option, Some, None}
use Rattle.std.proofs.lemmas.Option.{none-some}
use Rattle.std.specs.Option.{option_map}
use Rattle.muck_links.specs.Keyed.{latest}
use Rattle.muck_links.specs.Sessions.{Session, session_number, accepted}
use Rattle.spec_events.specs.World.{World}
use Rattle.spec_talks.specs.Talks.{Talk}
use Rattle.muck_model.specs.declared.note.Count.{Count}
use Rattle.spec_talks.specs.Counts.{counts}
use Rattle.spec_serve.specs.Marks.{noted}
use Rattle.spec_serve.specs.Accounts.{WorkedOff, Cause, ClosedWell, Agrees}
use Rattle.spec_serve.specs.Promises.{Tally}
use Rattle.spec_serve.specs.inner.Keeping.{Passed, Keeps, Peer}
use Rattle.spec_serve.specs.inner.Books.{Waits, Books}
use Rattle.spec_serve.proofs.Keys.{latest_front, latest_behind}
use Rattle.spec_serve.proofs.Pairs.{all2_map}
use Rattle.spec_serve.proofs.Marks.{noted_latest}
use Rattle.spec_serve.proofs.Counted.{counts_made}

-- Causes from before the note stay.

worked_noted : (cs : List Count) (w : World) (t : Talk) (s : Session) → WorkedOff None w t s → WorkedOff (Some cs) w t s
worked_noted cs w t s (WorkedOff.done a b c) = WorkedOff.done a b c
worked_noted cs w t s (WorkedOff.refused n a b) = WorkedOff.refused n a b
worked_noted cs w t s (WorkedOff.stalled a n b c) = absurd (none-some n b)

cause_noted : (cs : List Count) (w : World) (t : Talk) (s : Session) → Cause None w t s → Cause (Some cs) w t s
cause_noted cs w t s (Cause.faulted a) = Cause.faulted a
cause_noted cs w t s (Cause.left a b c) = Cause.left a b c
cause_noted cs w t s (Cause.tied n a b c) = Cause.tied n a b c
cause_noted cs w t s (Cause.ended n a b c) = Cause.ended n a b (worked_noted cs w t s c)
cause_noted cs w t s (Cause.stopped a b) = Cause.stopped a (worked_noted cs w t s b)

closed_noted : (cs : List Count) (o : Option World) (t : Talk) (s : Session) → ClosedWell None o t s → ClosedWell (Some cs) o t s
closed_noted cs None t s h = tt
closed_noted cs (Some w) t s h = cause_noted cs w t s h

pub agrees_noted : (cs : List Count) (t : Talk) (s : Session) → Agrees None t s → Agrees (Some cs) t s
agrees_noted cs t s a = record { number = a.number; lines = a.lines; bytes = a.bytes; lack = a.lack; closing = closed_noted cs t.closed t s a.closing; in_use = a.in_use }

-- an open link's count is noted, and it has refused no write since
keeps_noted : (cs : List Count) (p : Peer) (t : Talk) (s : Session) → noted s.number (Some cs) ≡ Some s.refused → Keeps None p t s → Keeps (Some cs) p t s
keeps_noted cs p t s is k = record {
  talk_number = k.talk_number;
  link_number = k.link_number;
  not_closed = k.not_closed;
  in_use = k.in_use;
  lines = k.lines;
  rest = k.rest;
  bytes = k.bytes;
  lack = k.lack;
  ended = k.ended;
  stalled = from p.stalled k.stalled.1;
  faulted = k.faulted;
}
  where
    from : (b : Bool) → b ≡ false → Passed true b (noted s.number (Some cs)) s.refused
    from false e = (s.refused, is, omega arith)
    from true e = absurd (true≢false e)

-- the latest link of a number is ours where it has a peer
pub latest_ours : (d : ℕ) (coming : Option ℕ) (extra mine before : List Session) (s : Session) → Waits coming extra → ((c : ℕ) → coming ≡ Some c → ¬ (c ≡ d))
    → latest session_number d mine ≡ Some s → latest session_number d (extra ++ (mine ++ before)) ≡ Some s
latest_ours d None extra mine before s waits away there =
    ap (λ (l : List Session). latest session_number d (l ++ (mine ++ before))) waits ∙ latest_front session_number d mine before s there
latest_ours d (Some c) extra mine before s waits away there =
    ap (λ (l : List Session). latest session_number d (l ++ (mine ++ before))) waits
    ∙ latest_behind session_number d (accepted c) (mine ++ before) (away c refl)
    ∙ latest_front session_number d mine before s there

-- The note is made: of all links, as they are now.
pub books_noted : (b : Tally) (ts : List Talk) (hs : List World) (k : Tally) (peers : List Peer) (coming : Option ℕ)
    → Books None b ts hs k peers coming → Books (Some (counts k.told.sessions)) b ts hs k peers coming
books_noted b ts hs k peers coming bk = record {
  mine = bk.mine;
  extra = bk.extra;
  whole = bk.whole;
  waits = bk.waits;
  agree = all2_map (Agrees None) (Agrees (Some (counts k.told.sessions))) (agrees_noted (counts k.told.sessions)) ts bk.mine bk.agree;
  kept = λ i p at.
      let m = bk.kept i p at in
      let ours = latest_ours p.number coming bk.extra bk.mine b.told.sessions m.1 bk.waits (λ c e same. bk.away c e i p at (sym same)) m.3 in
      let count : noted m.1.number (Some (counts k.told.sessions)) ≡ Some m.1.refused =
      ap (λ (n : ℕ). noted n (Some (counts k.told.sessions))) m.4.link_number
      ∙ noted_latest p.number k.told.sessions
      ∙ ap (λ (l : List Session). option_map (λ s. s.refused) (latest session_number p.number l)) bk.whole
      ∙ ap (option_map (λ s. s.refused)) ours in
      (m.0, m.1, m.2, m.3, keeps_noted (counts k.told.sessions) p m.0 m.1 count m.4);
  apart = bk.apart;
  away = bk.away;
  known = bk.known;
  counts = counts_made k.told.sessions;
  halts = bk.halts;
}
