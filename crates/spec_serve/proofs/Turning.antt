-- Turns of the first party: entries of others since it last saw the history, and then one of its own.
use Rattle.std.proofs.Common.{◌≡◌, ℕ, ◌≤◌, Bool, false, List, [], ◌∷◌, ◌++◌, length, take, set, refl, sym, ap, ◌∙◌, subst, arith, Option, Some, None}
use Rattle.std.specs.Prelude.{if◌then◌else◌}
use Rattle.std.specs.List.{remove}
use Rattle.std.proofs.lemmas.List.{append-nil, length-take}
use mathlib.Core.Option.{some}
use lib.ListN.{get_elem?}
use Rattle.turn_lock.specs.Histories.{StartsWith, own_of}
use Rattle.muck_links.specs.Sessions.{Session, on_session, shut}
use Rattle.muck_model.specs.declared.event.Entry.{Entry}
use Rattle.muck_model.specs.declared.event.Event.{Event}
use Rattle.muck_model.specs.declared.event.Event.TheVariants.{Opened, Input, Closed, Take, Halt}
use Rattle.spec_events.specs.World.{World, queue_of}
use Rattle.spec_events.specs.Histories.{after, AllLawful, by_porter}
use Rattle.spec_talks.specs.Parties.{party_of, worlds_at, halts, is_halt}
use Rattle.spec_talks.specs.Talks.{Talk, talked, talks, line_heard, given_out}
use Rattle.spec_talks.proofs.Talking.{talks_same, talks_turned}
use Rattle.spec_talks.proofs.Halting.{halts_same, halts_turned}
use Rattle.spec_serve.specs.Marks.{LinksNote}
use Rattle.spec_serve.specs.Accounts.{Cause}
use Rattle.spec_serve.specs.Promises.{Tally, HaltCause}
use Rattle.spec_serve.specs.inner.Keeping.{Peer, Keeps, new_peer}
use Rattle.spec_serve.specs.inner.Books.{with_told, Books, BooksOf}
use Rattle.spec_serve.proofs.Accounting.{keeps_heard, keeps_taken}
use Rattle.spec_serve.proofs.Booking.{books_talked, books_opened, books_closed, books_halted}

-- what was seen, and that the history is lawful and has none of the first party's entries since
module _ (w : World) (seen h : List Entry) (lawful : AllLawful w h) (more : StartsWith h seen) (own : own_of party_of 0 h ≡ own_of party_of 0 seen) where
  -- entries of others alone
  pub turn_others : (counted : LinksNote) (b k : Tally) (peers : List Peer) (coming : Option ℕ) → BooksOf counted b w seen k peers coming → BooksOf counted b w h k peers coming
  turn_others counted b k peers coming bk =
      subst (λ (ts : List Talk). Books counted b ts (worlds_at is_halt w h) k peers coming) (sym (talks_same w seen h lawful more own))
      (subst (λ (hs : List World). Books counted b (talks w seen) hs k peers coming) (sym (halts_same w seen h lawful more own)) bk)

  -- an entry that is no halt
  turned : (counted : LinksNote) (b k : Tally) (peers : List Peer) (coming : Option ℕ) (event : Event) → halts event ≡ false
      → Books counted b (talked (after w h) event (talks w seen)) (worlds_at is_halt w seen) k peers coming → BooksOf counted b w (h ++ by_porter event ∷ []) k peers coming
  turned counted b k peers coming event is bk =
      subst (λ (ts : List Talk). Books counted b ts (worlds_at is_halt w (h ++ by_porter event ∷ [])) k peers coming) (sym (talks_turned w seen h (by_porter event) lawful more own))
      (subst (λ (hs : List World). Books counted b (talked (after w h) event (talks w seen)) hs k peers coming) (sym none_more) bk)
    where
      none_more : worlds_at is_halt w (h ++ by_porter event ∷ []) ≡ worlds_at is_halt w seen
      none_more =
          halts_turned w seen h (by_porter event) lawful more own
          ∙ ap (λ (t : Bool). worlds_at is_halt w seen ++ (if t then after w h ∷ [] else [])) is
          ∙ append-nil (worlds_at is_halt w seen)

  -- an entry that no link sees
  pub turn_quiet : (counted : LinksNote) (b k : Tally) (peers : List Peer) (coming : Option ℕ) (event : Event) → halts event ≡ false
      → ((v : World) (ts : List Talk) → talked v event ts ≡ ts) → BooksOf counted b w seen k peers coming → BooksOf counted b w (h ++ by_porter event ∷ []) k peers coming
  turn_quiet counted b k peers coming event is quiet bk =
      turned counted b k peers coming event is
      (subst (λ (ts : List Talk). Books counted b ts (worlds_at is_halt w seen) k peers coming) (sym (quiet (after w h) (talks w seen))) bk)

  -- a line is entered
  pub turn_heard : (counted : LinksNote) (b k : Tally) (peers : List Peer) (coming : Option ℕ) (i : ℕ) (p : Peer) (line : List ℕ) (rest : List (List ℕ))
      → get_elem? peers i ≡ some p → p.cut.ready ≡ line ∷ rest → BooksOf counted b w seen k peers coming
      → BooksOf counted b w (h ++ by_porter (Input p.number line) ∷ []) k (set peers i (record p { cut = record { ready = rest; rest = p.cut.rest } })) coming
  turn_heard counted b k peers coming i p line rest at is bk =
      turned counted b k _ coming (Input p.number line) refl
      (books_talked counted b (talks w seen) (worlds_at is_halt w seen) k peers coming i p _ (line_heard line) at refl (λ t. refl) (λ t s x. keeps_heard counted p t s line rest is x) bk)

  -- bytes are taken, where none was kept
  pub turn_taken : (counted : LinksNote) (b k : Tally) (peers : List Peer) (coming : Option ℕ) (i : ℕ) (p : Peer) (n : ℕ)
      → get_elem? peers i ≡ some p → p.unsent ≡ [] → BooksOf counted b w seen k peers coming
      → BooksOf counted b w (h ++ by_porter (Take p.number n) ∷ []) k (set peers i (record p { unsent = take n (queue_of p.number (after w h)) })) coming
  turn_taken counted b k peers coming i p n at none_kept bk =
      let bytes = take n (queue_of p.number (after w h)) in
      turned counted b k _ coming (Take p.number n) refl
      (books_talked counted b (talks w seen) (worlds_at is_halt w seen) k peers coming i p _ (given_out bytes n) at refl (λ t. refl)
      (λ t s x. keeps_taken counted p t s bytes n none_kept (at_most n (queue_of p.number (after w h))) x) bk)
    where
      at_most : (m : ℕ) (xs : List ℕ) → length (take m xs) ≤ m
      at_most m xs = omega (arith, length-take m xs)

  -- the link that came is opened, before there is a note
  pub turn_opened : (b k : Tally) (peers : List Peer) (d : ℕ) → BooksOf None b w seen k peers (Some d)
      → BooksOf None b w (h ++ by_porter (Opened d) ∷ []) k (peers ++ new_peer d ∷ []) None
  turn_opened b k peers d bk =
      turned None b k (peers ++ new_peer d ∷ []) None (Opened d) refl (books_opened b (talks w seen) (worlds_at is_halt w seen) k peers d (new_peer d) refl bk)

  -- a connection is closed for a cause, and then its link
  pub turn_closed : (counted : LinksNote) (b k : Tally) (peers : List Peer) (coming : Option ℕ) (i : ℕ) (p : Peer) → get_elem? peers i ≡ some p
      → ((t : Talk) (s : Session) → Keeps counted p t s → Cause counted (after w h) t s) → BooksOf counted b w seen k peers coming
      → BooksOf counted b w (h ++ by_porter (Closed p.number) ∷ []) (with_told (on_session p.number shut k.told) k) (remove peers i) coming
  turn_closed counted b k peers coming i p at cause bk =
      turned counted b (with_told (on_session p.number shut k.told) k) (remove peers i) coming (Closed p.number) refl
      (books_closed counted b (talks w seen) (worlds_at is_halt w seen) k peers (remove peers i) coming i p.number p (after w h) at refl refl (λ t s l x. cause t s x) bk)

  -- the run is stopped for a cause
  pub turn_halted : (counted : LinksNote) (b k : Tally) (peers : List Peer) (coming : Option ℕ) → HaltCause b k (after w h) → BooksOf counted b w seen k peers coming
      → BooksOf counted b w (h ++ by_porter Halt ∷ []) k peers coming
  turn_halted counted b k peers coming cause bk =
      subst (λ (ts : List Talk). Books counted b ts (worlds_at is_halt w (h ++ by_porter Halt ∷ [])) k peers coming) (sym (talks_turned w seen h (by_porter Halt) lawful more own))
      (subst (λ (hs : List World). Books counted b (talks w seen) hs k peers coming) (sym (halts_turned w seen h (by_porter Halt) lawful more own))
      (books_halted counted b (talks w seen) (worlds_at is_halt w seen) k peers coming (after w h) cause bk))
