-- From the books to what is promised.
use Rattle.std.proofs.Common.{◌≡◌, ℕ, ◌≤◌, List, [], ◌++◌, refl, sym, ap, ◌∙◌, subst, inl, inr, Option, Some, None}
use Rattle.std.proofs.lemmas.Option.{same_Some}
use Rattle.std.specs.Prelude.{slice_get}
use Rattle.std.specs.Option.{option_map_or}
use mathlib.Core.Option.{some}
use lib.ListN.{get_elem?}
use Rattle.muck_links.specs.Keyed.{altered, latest}
use Rattle.muck_links.specs.Sessions.{Session, session_number, accepted, on_session}
use Rattle.muck_links.proofs.Keys.{altered_same}
use Rattle.turn_lock.specs.Histories.{StartsWith, own_of}
use Rattle.muck_model.specs.declared.event.Entry.{Entry}
use Rattle.spec_events.specs.World.{World}
use Rattle.spec_events.specs.Histories.{AllLawful}
use Rattle.spec_talks.specs.Parties.{party_of, worlds_at, is_halt}
use Rattle.spec_talks.specs.Talks.{Talk, talk_of, talks, talks_with, bytes_sent}
use Rattle.spec_talks.proofs.Talking.{talks_same}
use Rattle.spec_talks.proofs.Halting.{halts_same}
use Rattle.spec_serve.specs.Pairs.{All2}
use Rattle.spec_serve.specs.Marks.{LinksNote}
use Rattle.spec_serve.specs.Accounts.{Agrees, WorkedOff}
use Rattle.spec_serve.specs.Promises.{Tally, AtMostOne, Promised, PromisedOf, OpenWorkedOff, sessions_with}
use Rattle.spec_serve.specs.inner.Keeping.{Keeps, Peer}
use Rattle.spec_serve.specs.inner.Books.{with_told, Waits, Books, AllWorkedOff}
use Rattle.spec_serve.proofs.Pairs.{all2_altered, by_number}
use Rattle.spec_serve.proofs.Booking.{same_number, through}
use Rattle.spec_serve.proofs.Counted.{counts_altered}
use Rattle.spec_serve.proofs.Noting.{latest_ours}

at_most_one : (coming : Option ℕ) (extra : List Session) → Waits coming extra → AtMostOne extra
at_most_one None extra waits = inl waits
at_most_one (Some d) extra waits = inr (accepted d, waits, refl, refl)

-- what is kept is promised
pub books_promised : (counted : LinksNote) (b : Tally) (ts : List Talk) (hs : List World) (k : Tally) (peers : List Peer) (coming : Option ℕ)
    → Books counted b ts hs k peers coming → Promised counted b ts hs k
books_promised counted b ts hs k peers coming bk =
    record { mine = bk.mine; extra = bk.extra; whole = bk.whole; single = at_most_one coming bk.extra bk.waits; agree = bk.agree; counts = bk.counts; halts = bk.halts }

-- A call for one link after which nothing more is kept of it, as where memory was wanted: what is promised stands.
pub books_lost : (counted : LinksNote) (b : Tally) (ts : List Talk) (hs : List World) (k : Tally) (peers : List Peer) (coming : Option ℕ)
    (i : ℕ) (p : Peer) (g : Session → Session) → get_elem? peers i ≡ some p → ((s : Session) → session_number (g s) ≡ session_number s) → ((s : Session) → s.refused ≤ (g s).refused)
    → ((t : Talk) (s : Session) → Keeps counted p t s → Agrees counted t (g s))
    → Books counted b ts hs k peers coming → Promised counted b ts hs (with_told (on_session p.number g k.told) k)
books_lost counted b ts hs k peers coming i p g at links refuses agrees bk =
    let m = bk.kept i p at in
    record {
      mine = altered session_number p.number g bk.mine;
      extra = bk.extra;
      whole = ap (altered session_number p.number g) bk.whole
          ∙ through p.number g coming bk.extra bk.mine b.told.sessions m.1 bk.waits (λ c e same. bk.away c e i p at (sym same)) m.3;
      single = at_most_one coming bk.extra bk.waits;
      agree = subst (λ (l : List Talk). All2 (Agrees counted) l (altered session_number p.number g bk.mine)) (altered_same talk_of p.number (λ t. t) (λ t. refl) ts)
          (all2_altered talk_of session_number (Agrees counted) (same_number counted) p.number (λ t. t) g ts bk.mine m.0 m.1 bk.agree m.2 m.3 (agrees m.0 m.1 m.4));
      counts = counts_altered p.number g links refuses counted k.told.sessions bk.counts;
      halts = bk.halts;
    }

-- what is promised of the front that the first party has seen is so of the whole history, where it did nothing since
pub promised_whole : (counted : LinksNote) (b : Tally) (w : World) (h h' : List Entry) (k : Tally) → AllLawful w h' → StartsWith h' h → own_of party_of 0 h' ≡ own_of party_of 0 h
    → PromisedOf counted b w h k → PromisedOf counted b w h' k
promised_whole counted b w h h' k lawful more own promise =
    subst (λ (ts : List Talk). Promised counted b ts (worlds_at is_halt w h') k) (sym (talks_same w h h' lawful more own))
    (subst (λ (hs : List World). Promised counted b (talks w h) hs k) (sym (halts_same w h h' lawful more own)) promise)

-- The opening of d at a place belongs to its acceptance at that place, to which a front was written of the bytes that were taken for it.
pub promised_by_number : (counted : LinksNote) (b : Tally) (w : World) (h : List Entry) (k : Tally) (promise : PromisedOf counted b w h k) (d place : ℕ) (t : Talk)
    → slice_get (talks_with d (talks w h)) place ≡ Some t
    → (s : Session) × (slice_get (sessions_with d promise.mine) place ≡ Some s) × Agrees counted t s × StartsWith (bytes_sent w h d place) s.written
promised_by_number counted b w h k promise d place t at =
    let m = by_number counted d place (talks w h) promise.mine t promise.agree at in
    let taken : bytes_sent w h d place ≡ t.sent = ap (λ (o : Option Talk). option_map_or (λ x. x.sent) o []) at in
    (m.0, m.1, m.2, subst (λ (bytes : List ℕ). StartsWith bytes m.0.written) (sym taken) m.2.bytes)

-- Where each link that is open is worked off, so is each connection that is open.
pub books_worked_off : (counted : LinksNote) (b : Tally) (ts : List Talk) (hs : List World) (k : Tally) (peers : List Peer) (coming : Option ℕ) (w : World)
    → AllWorkedOff counted w peers → Books counted b ts hs k peers coming → OpenWorkedOff counted w ts k
books_worked_off counted b ts hs k peers coming w worked bk d t there not_closed =
    let o = bk.known d t there not_closed in
    let p = o.1 in
    let m = bk.kept o.0 p o.2 in
    let one : m.0 ≡ t = same_Some m.0 t (sym m.2 ∙ ap (λ (n : ℕ). latest talk_of n ts) o.3 ∙ there) in
    let ours = latest_ours p.number coming bk.extra bk.mine b.told.sessions m.1 bk.waits (λ c e same. bk.away c e o.0 p o.2 (sym same)) m.3 in (
      m.1,
      ap (λ (l : List Session). latest session_number d l) bk.whole
          ∙ ap (λ (n : ℕ). latest session_number n (bk.extra ++ (bk.mine ++ b.told.sessions))) (sym o.3)
          ∙ ours,
      subst (λ (x : Talk). WorkedOff counted w x m.1) one (worked o.0 p o.2 m.0 m.1 m.4),
    )
