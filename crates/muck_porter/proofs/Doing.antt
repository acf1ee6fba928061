-- What the porter does, against its books.
use Rattle.std.proofs.Common.{◌≡◌, ℕ, Bool, true, false, List, [], set, refl, sym, ap, ◌∙◌, subst, Option, Some, None}
use Rattle.std.specs.Prelude.{is_some}
use mathlib.Core.Option.{some, some-injective}
use lib.ListN.{get_elem?}
use Rattle.muck_laws.proofs.Places.{set_set, set_there}
use Rattle.muck_links.specs.Sessions.{LinksTold, on_session, shut}
use Rattle.muck_model.specs.declared.event.Event.{Event}
use Rattle.muck_model.specs.declared.event.Event.TheVariants.{Died}
use Rattle.spec_events.specs.declared.logged.Logged.{Logged}
use Rattle.spec_events.specs.World.{World}
use Rattle.spec_events.specs.Histories.{by_porter}
use Rattle.spec_events.specs.Logged.{entries_of, events_of}
use Rattle.spec_events.specs.Own.{Stage, IsWellFormed}
use Rattle.spec_talks.specs.Parties.{worlds_at, is_halt}
use Rattle.spec_talks.specs.Talks.{talks}
use Rattle.spec_serve.specs.Marks.{LinksNote}
use Rattle.spec_serve.specs.Promises.{Tally, PromisedOf}
use Rattle.spec_serve.specs.inner.Keeping.{Peer}
use Rattle.spec_serve.specs.inner.Books.{BooksOf}
use Rattle.spec_serve.proofs.Booking.{books_linked}
use Rattle.spec_serve.proofs.Promising.{books_lost}
use Rattle.muck_work.specs.inner.Seats.{Sight, Chair, Rests, Left, Waited}
use Rattle.muck_work.proofs.Seating.{left_rests}
use Rattle.muck_peer.specs.Moves.{LinkStep, LinkLoss}
use Rattle.muck_porter.specs.inner.Notes.{note_in}
use Rattle.muck_porter.specs.inner.Kept.{tally, BooksAt, PromisedIn, IsAt, IsFree, Resting, Ready, ReadyTimed, Over}
use Rattle.muck_porter.specs.inner.Deeds.{IsMoment}
use Rattle.muck_porter.specs.inner.Turns.{PorterTurn}
use Rattle.muck_porter.specs.inner.Moves.{Carries, Ends, TendsPeer, LosesPeer, Tends, Loses, LastEntry}
use Rattle.muck_porter.specs.inner.Rounds.{WroteAt, ClosedAt}
use Rattle.muck_porter.proofs.Stages.{stage_moment, formed_at}
use Rattle.muck_porter.proofs.Carrying.{IsQuiet, quiet_moment, quiet_died, turn_noted, carries_quiet, last_entry, promised_in, kept_waited}

-- Places in a list.

-- Calls of the links.

pub linked_books : (b : Tally) (v : Sight) (k k' : LinksTold) (n : ℕ) (peers : List Peer) (coming : Option ℕ) (i : ℕ) (p p' : Peer) → get_elem? peers i ≡ some p → LinkStep (note_in v.own) p p' k k'
    → BooksAt b v (tally k n) peers coming → BooksAt b v (tally k' n) (set peers i p') coming
linked_books b v k k' n peers coming i p p' at step bk u m root =
    let bi = bk u m root in
    record {
      nobody = bi.nobody;
      later = bi.later;
      books = subst (λ (x : LinksTold). BooksOf (note_in v.own) b u (entries_of v.seen) (tally x n) (set peers i p') coming) (sym step.told)
          (books_linked (note_in v.own) b (talks u (entries_of v.seen)) (worlds_at is_halt u (entries_of v.seen)) (tally k n) peers coming i p p' step.change at step.number step.link step.refuses step.keeps bi.books);
    }

pub lost_books : (b : Tally) (v : Sight) (k k' : LinksTold) (n : ℕ) (peers : List Peer) (coming : Option ℕ) (i : ℕ) (p : Peer) → get_elem? peers i ≡ some p → LinkLoss (note_in v.own) p k k'
    → BooksAt b v (tally k n) peers coming → PromisedIn b v v.seen (tally k' n)
lost_books b v k k' n peers coming i p at loss bk u m root =
    subst (λ (x : LinksTold). PromisedOf (note_in v.own) b u (entries_of v.seen) (tally x n)) (sym loss.told)
    (books_lost (note_in v.own) b (talks u (entries_of v.seen)) (worlds_at is_halt u (entries_of v.seen)) (tally k n) peers coming i p loss.change at loss.link loss.refuses loss.agrees (bk u m root).books)

-- no call for a link asks to listen

pub ports_stepped : (noted : Bool) (k k' : LinksTold) (p p' : Peer) → ((counted : LinksNote) → is_some counted ≡ noted → LinkStep counted p p' k k') → k'.ports ≡ k.ports
ports_stepped true k k' p p' step = ap (λ (x : LinksTold). x.ports) (step (Some []) refl).told
ports_stepped false k k' p p' step = ap (λ (x : LinksTold). x.ports) (step None refl).told

-- what is kept of a link is written, and it is read
pub tends_both : (noted : Bool) (k k1 k2 : LinksTold) (p p1 p2 : Peer) → ((counted : LinksNote) → is_some counted ≡ noted → LinkStep counted p p1 k k1) → ((counted : LinksNote) → LinkStep counted p1 p2 k1 k2)
    → TendsPeer noted k k2 p p2
tends_both noted k k1 k2 p p1 p2 first second v b peers coming i n known at bk =
    subst (λ (ps : List Peer). BooksAt b v (tally k2 n) ps coming) (set_set peers i p1 p2)
    (linked_books b v k1 k2 n (set peers i p1) coming i p1 p2 (set_there peers i p p1 at) (second (note_in v.own))
    (linked_books b v k k1 n peers coming i p p1 at (first (note_in v.own) known) bk))

pub loses_both : (noted : Bool) (k k1 k2 : LinksTold) (p p1 : Peer) → ((counted : LinksNote) → is_some counted ≡ noted → LinkStep counted p p1 k k1) → ((counted : LinksNote) → LinkLoss counted p1 k1 k2)
    → LosesPeer noted k k2 p
loses_both noted k k1 k2 p p1 first second v b peers coming i n known at bk =
    lost_books b v k1 k2 n (set peers i p1) coming i p1 (set_there peers i p p1 at) (second (note_in v.own))
    (linked_books b v k k1 n peers coming i p p1 at (first (note_in v.own) known) bk)

pub tends_more : (noted : Bool) (k k1 k2 : LinksTold) (ps ps1 ps2 : List Peer) (i : ℕ) (p p' : Peer) → get_elem? ps1 i ≡ some p → ps2 ≡ set ps1 i p' → Tends noted k k1 ps ps1 → TendsPeer noted k1 k2 p p' → Tends noted k k2 ps ps2
tends_more noted k k1 k2 ps ps1 ps2 i p p' at same first second v b coming n known bk =
    subst (λ (l : List Peer). BooksAt b v (tally k2 n) l coming) (sym same) (second v b ps1 coming i n known at (first v b coming n known bk))

pub loses_more : (noted : Bool) (k k1 k2 : LinksTold) (ps ps1 : List Peer) (i : ℕ) (p : Peer) → get_elem? ps1 i ≡ some p → Tends noted k k1 ps ps1 → LosesPeer noted k1 k2 p → Loses noted k k2 ps
loses_more noted k k1 k2 ps ps1 i p at first second v b coming n known bk = second v b ps1 coming i n known at (first v b coming n known bk)

-- Where a turn ends.

pub over_at : (me : Chair) (stage : Stage) → Rests 0 me → IsAt stage me.0.own → Over me
over_at me stage r at = record { left = left_rests 0 me r; formed = formed_at me.0.own stage at }

pub over_waited : (me me' : Chair) → Left 0 me' → Waited me.0 me'.0 → IsWellFormed 0 (events_of me.0.own) → Over me'
over_waited me me' left waited formed = record { left = left; formed = subst (λ (ls : List Logged). IsWellFormed 0 (events_of ls)) (sym waited.1) formed }

-- all turns were had
pub last_waited : (me me' : Chair) (k : LinksTold) (n : ℕ) → Rests 0 me → Waited me.0 me'.0 → LastEntry (tally k n) (tally k n) me.0 me'.0
last_waited me me' k n r waited b promise = kept_waited b me.0 me'.0 (tally k n) r.own waited promise

-- what is promised ends so
pub ends_last : (v v' : Sight) (K K' : Tally) (peers : List Peer) (coming : Option ℕ) → LastEntry K K' v v' → Ends v v' K K' peers coming
ends_last v v' K K' peers coming last b bk = last b (promised_in b v K peers coming bk)

pub ends_waited : (me me' : Chair) (k : LinksTold) (n : ℕ) (peers : List Peer) (coming : Option ℕ) → Rests 0 me → Waited me.0 me'.0 → Ends me.0 me'.0 (tally k n) (tally k n) peers coming
ends_waited me me' k n peers coming r waited = ends_last me.0 me'.0 (tally k n) (tally k n) peers coming (last_waited me me' k n r waited)

module _ (noted noted' : Bool) (k : LinksTold) (me me' : Chair) (w : World) (event : Event) (r : Rests 0 me') (turn : PorterTurn noted noted' k me.0 me'.0 w event) (known : noted ≡ is_some (note_in me.0.own)) where
  -- memory was wanted
  pub died_last : (n : ℕ) → event ≡ Died → LastEntry (tally k n) (tally k n) me.0 me'.0
  died_last n is = last_entry noted noted' k me.0 me'.0 w event turn known n (subst IsQuiet (sym is) quiet_died) r.own

  pub died_ends : (n : ℕ) (peers : List Peer) (coming : Option ℕ) → event ≡ Died → Ends me.0 me'.0 (tally k n) (tally k n) peers coming
  died_ends n peers coming is = ends_last me.0 me'.0 (tally k n) (tally k n) peers coming (died_last n is)

  pub turn_resting : Resting noted' me'
  turn_resting = record { rests = r; known = turn_noted noted noted' k me.0 me'.0 w event turn known }

  -- a moment was entered
  pub moment_ready : IsFree me.0.own → IsMoment event → ReadyTimed noted' me'
  moment_ready free is = record { resting = turn_resting; timed = stage_moment me.0.own me'.0.own turn.item turn.own is.0 (turn.entry ∙ ap by_porter is.1) free }

  pub moment_carries : (n : ℕ) (peers : List Peer) (coming : Option ℕ) → IsMoment event → Carries me.0 me'.0 (tally k n) (tally k n) peers peers coming coming
  moment_carries n peers coming is b bk = carries_quiet noted noted' k me.0 me'.0 w event turn known b n peers coming (subst IsQuiet (sym is.1) (quiet_moment is.0)) bk

  -- any entry that no link sees
  pub quiet_carries : (n : ℕ) (peers : List Peer) (coming : Option ℕ) → IsQuiet event → Carries me.0 me'.0 (tally k n) (tally k n) peers peers coming coming
  quiet_carries n peers coming q b bk = carries_quiet noted noted' k me.0 me'.0 w event turn known b n peers coming q bk

pub timed_ready : (noted : Bool) (me : Chair) → ReadyTimed noted me → Ready noted me
timed_ready noted me t = record { resting = t.resting; free = IsFree.timed t.timed }

-- Lists.

pub peer_closed : (ps : List Peer) (i : ℕ) (p p' : Peer) → p' ≡ p → set ps i p' ≡ set ps i p
peer_closed ps i p p' same = ap (set ps i) same

pub wrote_at : (i : ℕ) (noted : Bool) (k k' : LinksTold) (ps : List Peer) (p p' : Peer) → get_elem? ps i ≡ some p → ((counted : LinksNote) → is_some counted ≡ noted → LinkStep counted p p' k k') → WroteAt i noted k k' ps (set ps i p')
wrote_at i noted k k' ps p p' at step q there =
    (p', refl, (λ counted marks. subst (λ (x : Peer). LinkStep counted x p' k k') (some-injective p q (sym at ∙ there)) (step counted marks)))

pub closed_at : (i : ℕ) (k k' : LinksTold) (ps : List Peer) (p : Peer) → get_elem? ps i ≡ some p → k' ≡ on_session p.number shut k → ClosedAt i k k' ps
closed_at i k k' ps p at told q there = told ∙ ap (λ (x : Peer). on_session x.number shut k) (some-injective p q (sym at ∙ there))
